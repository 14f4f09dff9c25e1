use Rattle.std.proofs.Common.{IfNone, ℕ}
use Rattle.mds_world.specs.Lists.{Member}
use Rattle.mds_fill.specs.Candidates.{IsCandidate}
use Rattle.mds_fill.proofs.LikeDays.{each_slot}
use Rattle.mds_fill.proofs.like_days.candidates.Goals as goal

pub returns-clause-none : goal.returns-clause-none
returns-clause-none c =
    each_slot (λ place slot. IfNone slot
    ((found : ℕ) → IsCandidate (λ holiday. Member holiday c.args.holidays.now) c.args.day place found → ⊥))
    _ _ _ _ c.candidate.ensures.none c.candidate-2.ensures.none c.candidate-3.ensures.none c.candidate-4.ensures.none

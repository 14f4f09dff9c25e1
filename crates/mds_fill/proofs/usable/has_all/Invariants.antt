use Rattle.std.proofs.Common.{◌≤◌, ◌<◌, ℕ, ℤ}
use Rattle.mds_world.specs.World.{World}
use Rattle.mds_jobs.specs.Jobs.{content_of}
use Rattle.mds_fill.specs.Fills.{IsBookOf, IsUsable}
use Rattle.mds_fill.proofs.usable.has_all.Given as goal

abbrev pub invariant-loop-interval : goal.invariant-loop-interval
invariant-loop-interval l =
    (w : World) (day : ℕ) → IsBookOf w l.job.stream day l.book → (i : ℕ) → l.job.first ≤ i → i < l.interval
    → (value : ℤ) × IsUsable w (content_of l.job) day i value

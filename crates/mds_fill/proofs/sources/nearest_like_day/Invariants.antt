use Rattle.std.proofs.Common.{◌<◌, ℕ}
use Rattle.mds_world.specs.World.{World}
use Rattle.mds_jobs.specs.Jobs.{content_of}
use Rattle.mds_fill.specs.Fills.{HasAll, IsContext, IsLike}
use Rattle.mds_fill.proofs.sources.nearest_like_day.Given as goal

abbrev pub invariant-loop-slot : goal.invariant-loop-slot
invariant-loop-slot l =
    (w : World) → IsContext w (content_of l.job) l.context → (place day : ℕ) → place < l.slot-index
    → IsLike w (content_of l.job) place day → HasAll w (content_of l.job) day → ⊥

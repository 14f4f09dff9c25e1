use Rattle.std.proofs.Common.{◌≤◌, ◌<◌, ℕ}
use Rattle.mds_world.specs.World.{World}
use Rattle.mds_fill.specs.Fills.{IsBookOf, IsProtected}
use Rattle.mds_fill.proofs.targets.first_protected.Given as goal

abbrev pub invariant-loop-interval : goal.invariant-loop-interval
invariant-loop-interval l =
    (w : World) → IsBookOf w l.job.stream l.job.day l.book → (i : ℕ) → l.job.first ≤ i → i < l.interval
    → IsProtected w l.job.stream l.job.day i → ⊥

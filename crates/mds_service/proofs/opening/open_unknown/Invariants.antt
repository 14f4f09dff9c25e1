use Rattle.mds_world.specs.World.{World}
use Rattle.mds_service.specs.Imports.{AreMerges}
use Rattle.mds_service.specs.OpeningSteps.{AreUnknown}
use Rattle.mds_service.proofs.DayOrder.{day_cmp}
use Rattle.mds_service.proofs.opening.open_unknown.Given as goal

abbrev pub invariant-loop-number : goal.invariant-loop-number
invariant-loop-number l =
    (w facts : World) → AreUnknown w l.stream l.first l.end → AreMerges day_cmp w facts l.initial.merges
    → AreMerges day_cmp w facts l.merges

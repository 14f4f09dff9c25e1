use Rattle.mds_world.specs.World.{IsLawful, World}
use Rattle.mds_keeper.specs.Queries.{AreDaysOf}
use Rattle.mds_service.specs.Imports.{AreMerges}
use Rattle.mds_service.proofs.DayOrder.{day_cmp}
use Rattle.mds_service.proofs.opening.open_days.Given as goal

abbrev pub invariant-loop-book : goal.invariant-loop-book
invariant-loop-book l =
    (w facts : World) → IsLawful w → AreDaysOf w l.stream l.fn.first l.last l.fn.books.items
    → AreMerges day_cmp w facts l.fn.merges
    → AreDaysOf w l.stream l.from l.last l.book-iterator.rest.items × AreMerges day_cmp w facts l.merges

use Rattle.std.proofs.Common.{ℕ, take}
use Rattle.mds_names.specs.declared.stream.Stream.{Stream}
use Rattle.mds_world.specs.Current.{IsCurrentDetails}
use Rattle.mds_world.specs.World.{World}
use Rattle.mds_keeper.specs.Queries.{AreDaysOf, AreDetailsBetween}
use Rattle.mds_ranges.proofs.Selected.{AreTaken}
use Rattle.mds_ranges.proofs.selecting.selected_days.Given as goal

abbrev pub invariant-loop-book : goal.invariant-loop-book
invariant-loop-book l =
    (w : World) (s : Stream) (first last : ℕ) → AreDaysOf w s first last l.books → IsCurrentDetails w s first l.at_first
    → AreDetailsBetween w s first last l.rows → AreTaken w s (take l.book-index l.books) l.days.items

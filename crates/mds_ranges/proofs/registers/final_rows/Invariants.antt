use Rattle.std.proofs.Common.{ℕ, drop}
use Rattle.mds_names.specs.declared.stream.Stream.{Stream}
use Rattle.mds_world.specs.World.{World}
use Rattle.mds_keeper.specs.Queries.{AreDaysOf}
use Rattle.mds_ranges.proofs.Ranged.{FinalsOnWay}
use Rattle.mds_ranges.proofs.registers.final_rows.Given as goal

abbrev pub invariant-loop-book : goal.invariant-loop-book
invariant-loop-book l =
    (w : World) (s : Stream) (first last : ℕ) → AreDaysOf w s first last l.books
    → FinalsOnWay w s first last (drop l.book-index l.books) l.rows.items

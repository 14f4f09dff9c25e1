use Rattle.std.proofs.Common.{◌+◌, ◌≤◌, drop}
use Rattle.mds_calendar.specs.Calendar.{last_day}
use Rattle.mds_names.specs.declared.stream.Stream.{Stream}
use Rattle.mds_world.specs.World.{World}
use Rattle.mds_keeper.specs.Queries.{AreDaysOf}
use Rattle.mds_ranges.proofs.Ranged.{GapsOnWay}
use Rattle.mds_ranges.proofs.registers.gap_rows.Given as goal

abbrev pub invariant-loop-book : goal.invariant-loop-book
invariant-loop-book l = record {
  fits : l.from ≤ last_day + 1;
  rows : (w : World) (s : Stream) → AreDaysOf w s l.fn.first l.last l.books
      → GapsOnWay w s l.fn.first l.last l.from (drop l.book-index l.books) l.rows.items;
}

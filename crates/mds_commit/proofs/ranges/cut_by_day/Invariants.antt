use Rattle.std.proofs.Common.{◌≡◌, ◌++◌, List, take}
use Rattle.sqlite_value.specs.Order.{Row}
use Rattle.mds_commit.specs.Cuts.{AreCut}
use Rattle.mds_commit.proofs.ranges.cut_by_day.Given as goal

abbrev pub invariant-loop-i : goal.invariant-loop-i
invariant-loop-i l = record {
  used_forms : List Row;
  used_packs : List Row;
  of_forms : l.forms ≡ used_forms ++ l.forms_left;
  of_packs : l.packs ≡ used_packs ++ l.packs_left;
  cut : AreCut l.stream (take l.i l.days) used_forms used_packs l.books.items;
}

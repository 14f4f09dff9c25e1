use Rattle.std.proofs.Common.{◌≡◌, take}
use Rattle.sqlite_value.specs.Order.{Row}
use Rattle.mds_world.specs.Lists.{Member}
use Rattle.mds_tables.specs.RowFacts.{text_at, unit_named}
use Rattle.mds_commit.proofs.units.say_only.Given as goal

abbrev pub invariant-loop-row : goal.invariant-loop-row
invariant-loop-row l =
    record {
      all : (row : Row) → Member row (take l.row-index l.rows) → unit_named (text_at row 0) ≡ l.unit;
    }

use Rattle.std.proofs.Common.{◌≡◌, take}
use Rattle.std.specs.List.{flat_map}
use Rattle.sqlite.specs.Values.{bound}
use Rattle.mds_tables.proofs.rows.cells_of.Given as goal

abbrev pub invariant-loop-item : goal.invariant-loop-item
invariant-loop-item g l = bound l.cells.items ≡ flat_map (g.T.Tabled.tabling l.with).cells (take l.item-index l.items)

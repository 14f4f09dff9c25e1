use Rattle.std.proofs.Common.{◌≡◌, take}
use Rattle.std.specs.List.{flat_map}
use Rattle.sqlite.specs.Values.{bound}
use Rattle.mds_pack_rows.specs.Batches.{columns_of}
use Rattle.mds_pack_rows.proofs.statements.batch_cells.Given as goal

abbrev pub invariant-loop-row : goal.invariant-loop-row
invariant-loop-row l = bound l.cells.items ≡ flat_map columns_of (take l.row-index l.rows)

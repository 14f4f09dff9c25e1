use Rattle.std.proofs.Common.{rules, w64}
use Rattle.std.proofs.lemmas.Int.{to_z-of_z}
use Rattle.mds_tables.proofs.tables.job_row_cells.Goals as goal

pub returns : goal.returns
returns c = rw (c.as_bytes.ensures.value, to_z-of_z w64 c.args.row.now.count (search rules)) at c.job_cells.ensures

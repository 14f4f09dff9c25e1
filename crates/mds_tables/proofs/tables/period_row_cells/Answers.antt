use Rattle.mds_tables.proofs.tables.period_row_cells.Goals as goal

pub returns : goal.returns
returns c = rw c.as_bytes.ensures.value at c.period_cells.ensures

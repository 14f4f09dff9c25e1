use Rattle.std.proofs.Common.{[], take}
use Rattle.mds_registers.specs.Registers.{gap_fields}
use Rattle.mds_registers.proofs.Rows.{HasRows}
use Rattle.mds_registers.proofs.writing.gap_rows_text.Given as goal

abbrev pub invariant-loop-row : goal.invariant-loop-row
invariant-loop-row l =
    HasRows [] (λ row. row.day) (gap_fields l.stream) (take l.row-index l.rows) l.writer

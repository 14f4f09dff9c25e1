use Rattle.std.proofs.Common.{take}
use Rattle.csv.specs.Writing.{default_writer, row_text}
use Rattle.mds_registers.specs.Registers.{final_fields, finals_head}
use Rattle.mds_registers.proofs.Rows.{HasRows}
use Rattle.mds_registers.proofs.writing.finals_text.Given as goal

abbrev pub invariant-loop-row : goal.invariant-loop-row
invariant-loop-row l =
    HasRows (row_text default_writer finals_head) (λ row. row.day) (final_fields l.stream) (take l.row-index l.rows) l.writer

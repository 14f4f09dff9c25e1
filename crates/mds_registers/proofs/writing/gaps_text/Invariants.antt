use Rattle.std.proofs.Common.{take}
use Rattle.csv.specs.Writing.{default_writer, row_text}
use Rattle.mds_registers.specs.Registers.{gap_fields, gaps_head}
use Rattle.mds_registers.proofs.Rows.{HasRows}
use Rattle.mds_registers.proofs.writing.gaps_text.Given as goal

abbrev pub invariant-loop-row : goal.invariant-loop-row
invariant-loop-row l =
    HasRows (row_text default_writer gaps_head) (λ row. row.day) (gap_fields l.stream) (take l.row-index l.rows) l.writer

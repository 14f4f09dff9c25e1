use Rattle.std.proofs.Common.{[], refl}
use Rattle.mds_registers.specs.Registers.{gap_fields}
use Rattle.mds_registers.specs.declared.writing.GapRow.{GapRow}
use Rattle.mds_registers.proofs.Rows.{has_more, has_rows_alone, no_rows}
use Rattle.mds_registers.proofs.writing.gap_rows_text.Goals as goal

pub loop-row-init : goal.loop-row-init
loop-row-init c =
    no_rows [] [] (λ (row : GapRow). row.day) (gap_fields c.args.stream.now) c.new_writer-writer.result refl c.new_writer-writer.ensures

pub loop-row-preserved : goal.loop-row-preserved
loop-row-preserved c =
    has_more [] (λ (row : GapRow). row.day) (gap_fields c.args.stream.now) c.args.rows.now
    c.loop-row.row-index c.row-item.result c.loop-row.writer c.write_gap.new.writer c.loop-row-test.true c.row-item.is
    c.in_ok-write_gap.ensures c.loop-row.invariant

pub returns : goal.returns
returns c =
    has_rows_alone (λ (row : GapRow). row.day) (gap_fields c.args.stream.now) c.args.rows.now
    c.loop-row.row-index c.loop-row.writer c.written.result c.loop-row-test.false c.written.ensures c.loop-row.invariant

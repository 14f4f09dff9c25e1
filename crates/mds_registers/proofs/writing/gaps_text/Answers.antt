use Rattle.std.proofs.Common.{refl}
use Rattle.csv.specs.Writing.{default_writer, row_text}
use Rattle.mds_registers.specs.Registers.{gap_fields, gaps_head}
use Rattle.mds_registers.specs.declared.writing.GapRow.{GapRow}
use Rattle.mds_registers.proofs.Rows.{has_all, has_more, no_rows}
use Rattle.mds_registers.proofs.writing.gaps_text.Goals as goal

pub loop-row-init : goal.loop-row-init
loop-row-init c =
    no_rows (row_text default_writer gaps_head) _ (λ (row : GapRow). row.day) (gap_fields c.args.stream.now) c.in_ok-writer.writer
    refl c.in_ok-writer.ensures

pub loop-row-preserved : goal.loop-row-preserved
loop-row-preserved c =
    has_more (row_text default_writer gaps_head) (λ (row : GapRow). row.day) (gap_fields c.args.stream.now) c.args.rows.now
    c.loop-row.row-index c.row-item.result c.loop-row.writer c.write_gap.new.writer c.loop-row-test.true c.row-item.is
    c.in_ok-write_gap.ensures c.loop-row.invariant

pub returns : goal.returns
returns c =
    has_all (row_text default_writer gaps_head) (λ (row : GapRow). row.day) (gap_fields c.args.stream.now) c.args.rows.now
    c.loop-row.row-index c.loop-row.writer c.written.result c.loop-row-test.false c.written.ensures c.loop-row.invariant

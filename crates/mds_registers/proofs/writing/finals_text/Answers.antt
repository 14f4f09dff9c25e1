use Rattle.std.proofs.Common.{◌≡◌, ◌∷◌, [], ap}
use Rattle.csv.specs.Writing.{default_writer, row_text}
use Rattle.mds_registers.specs.Registers.{final_fields, finals_head}
use Rattle.mds_registers.specs.declared.writing.FinalRow.{FinalRow}
use Rattle.mds_registers.proofs.Rows.{has_all, has_more, no_rows}
use Rattle.mds_registers.proofs.writing.finals_text.Goals as goal

pub loop-row-init : goal.loop-row-init
loop-row-init c =
    let names : c.as_slice.result.now ∷ c.as_slice-2.result.now ∷ c.as_slice-3.result.now ∷ c.as_slice-4.result.now ∷ c.as_slice-5.result.now ∷ c.as_slice-6.result.now ∷ c.as_slice-7.result.now ∷ c.as_slice-8.result.now ∷ [] ≡ finals_head =
    λ k. c.as_slice.ensures k ∷ c.as_slice-2.ensures k ∷ c.as_slice-3.ensures k ∷ c.as_slice-4.ensures k ∷ c.as_slice-5.ensures k ∷ c.as_slice-6.ensures k ∷ c.as_slice-7.ensures k ∷ c.as_slice-8.ensures k ∷ [] in
    no_rows (row_text default_writer finals_head) _ (λ (row : FinalRow). row.day) (final_fields c.args.stream.now) c.in_ok-writer.writer
    (ap (row_text default_writer) names) c.in_ok-writer.ensures

pub loop-row-preserved : goal.loop-row-preserved
loop-row-preserved c =
    has_more (row_text default_writer finals_head) (λ (row : FinalRow). row.day) (final_fields c.args.stream.now) c.args.rows.now
    c.loop-row.row-index c.row-item.result c.loop-row.writer c.write_final.new.writer c.loop-row-test.true c.row-item.is
    c.in_ok-write_final.ensures c.loop-row.invariant

pub returns : goal.returns
returns c =
    has_all (row_text default_writer finals_head) (λ (row : FinalRow). row.day) (final_fields c.args.stream.now) c.args.rows.now
    c.loop-row.row-index c.loop-row.writer c.written.result c.loop-row-test.false c.written.ensures c.loop-row.invariant

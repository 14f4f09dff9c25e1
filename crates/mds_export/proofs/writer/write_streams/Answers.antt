use Rattle.mds_export.proofs.Writes.{streams_step}
use Rattle.std.proofs.Common.{List, ℕ, [], refl, sym, subst, arith}
use Rattle.std.proofs.lemmas.Result.{err_from_is_err_and}
use Rattle.mds_quantity.proofs.Front.{on_err_from}
use Rattle.mds_export.proofs.Begun.{begun_after}
use Rattle.std.proofs.lemmas.List.{append-nil, take_all}
use Rattle.mds_quantity.specs.Append.{Appends}
use Rattle.mds_export.specs.Placed.{placed_days}
use Rattle.mds_export.specs.WriterSteps.{AreWritten}
use Rattle.mds_statements.specs.declared.selected.SelectedStream.{SelectedStream}
use Rattle.mds_export.proofs.writer.write_streams.Goals as goal

pub loop-selected-preserved : goal.loop-selected-preserved
loop-selected-preserved c =
    streams_step c.args.streams.now c.loop-selected.selected-index c.selected-item.result c.args.out.now.items c.loop-selected.out.items
    c.write_stream.new.out.items c.loop-selected-test.true c.selected-item.is c.loop-selected.invariant c.in_ok-write_stream.ensures.done

pub loop-selected-init : goal.loop-selected-init
loop-selected-init c = ([], record { rows = []; of_days = refl; lines = refl }, sym (append-nil c.args.out.now.items))

pub returns-in_err-write_stream-clause-done : goal.returns-in_err-write_stream-clause-done
returns-in_err-write_stream-clause-done c = let p = err_from_is_err_and c.from_residual.result c.from_residual.ensures.1 in rw p.1 tt

pub returns-in_err-write_stream-clause-grown : goal.returns-in_err-write_stream-clause-grown
returns-in_err-write_stream-clause-grown c =
    on_err_from c.from_residual.result _
    (begun_after _ _ _ c.loop-selected.invariant.0 c.loop-selected.invariant.2 c.in_err-write_stream.ensures.grown)

pub returns-clause-done : goal.returns-clause-done
returns-clause-done c =
    let whole = take_all c.loop-selected.selected-index c.args.streams.now (omega arith) in
    subst (λ (streams : List SelectedStream). (text : List ℕ) × AreWritten (placed_days streams) text × Appends c.args.out.now.items c.loop-selected.out.items text)
    whole c.loop-selected.invariant

use Rattle.std.proofs.Common.{List, ℕ, [], map, refl, sym, subst, arith}
use Rattle.std.proofs.lemmas.List.{append-nil, take_all}
use Rattle.std.proofs.lemmas.Result.{err_from_is_err_and}
use Rattle.mds_quantity.specs.Append.{Appends}
use Rattle.mds_quantity.proofs.Front.{on_err_from}
use Rattle.mds_runs.specs.declared.cover.Run.{Run}
use Rattle.mds_export.specs.Exports.{AreInTurn, run_row}
use Rattle.mds_export.specs.WriterSteps.{IsWritten}
use Rattle.mds_export.proofs.Begun.{begun_after}
use Rattle.mds_export.proofs.Writes.{runs_step}
use Rattle.mds_export.proofs.writer.write_runs.Goals as goal

pub loop-run-init : goal.loop-run-init
loop-run-init c = ([], refl, sym (append-nil c.args.out.now.items))

pub loop-run-preserved : goal.loop-run-preserved
loop-run-preserved c =
    runs_step c.args.runs.now c.loop-run.run-index c.run-item.result c.args.out.now.items c.loop-run.out.items c.write_run.new.out.items
    c.loop-run-test.true c.run-item.is c.loop-run.invariant c.in_ok-write_run.ensures.done c.in_ok-write_run.ensures.lawful

pub returns-in_err-write_run-clause-done : goal.returns-in_err-write_run-clause-done
returns-in_err-write_run-clause-done c = let p = err_from_is_err_and c.from_residual.result c.from_residual.ensures.1 in rw p.1 tt

pub returns-in_err-write_run-clause-grown : goal.returns-in_err-write_run-clause-grown
returns-in_err-write_run-clause-grown c =
    on_err_from c.from_residual.result _
    (begun_after _ _ _ c.loop-run.invariant.0 c.loop-run.invariant.2 c.in_err-write_run.ensures.grown)

pub returns-clause-done : goal.returns-clause-done
returns-clause-done c =
    subst (λ (runs : List Run). (text : List ℕ) × AreInTurn IsWritten (map run_row runs) text × Appends c.args.out.now.items c.loop-run.out.items text)
    (take_all c.loop-run.run-index c.args.runs.now (omega arith)) c.loop-run.invariant

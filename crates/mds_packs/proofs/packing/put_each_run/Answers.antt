use Rattle.std.proofs.Common.{◌++◌, List, [], ◌∷◌, take, ap, sym, ◌∙◌, arith}
use Rattle.std.specs.List.{flat_map}
use Rattle.std.proofs.lemmas.List.{append-nil, flat_map_more, take_all, take_more}
use Rattle.std.proofs.lemmas.Result.{IfOk-from_err}
use Rattle.mds_runs.specs.declared.cover.Run.{Run}
use Rattle.mds_packs.specs.Body.{run_bytes}
use Rattle.mds_packs.proofs.packing.put_each_run.Goals as goal

pub loop-run-init : goal.loop-run-init
loop-run-init c = sym (append-nil c.args.out.now.items)

pub returns-in_err-put_run : goal.returns-in_err-put_run
returns-in_err-put_run c = IfOk-from_err _ _ c.from_residual.ensures.0

pub loop-run-preserved : goal.loop-run-preserved
loop-run-preserved c =
    let runs = c.args.runs.now in
    let k = c.loop-run.run-index in
    let old = c.args.out.now.items in
    let run = c.run-item.result in
    c.in_ok-put_run.ensures ∙ ap (λ text. text ++ run_bytes run) c.loop-run.invariant
    ∙ flat_map_more run_bytes old (take k runs) run
    ∙ ap (λ (r : Run). old ++ flat_map run_bytes (take k runs ++ r ∷ [])) c.run-item.is
    ∙ ap (λ (l : List Run). old ++ flat_map run_bytes l) (sym (take_more runs k run c.loop-run-test.true))

pub returns : goal.returns
returns c =
    c.loop-run.invariant
    ∙ ap (λ (runs : List Run). c.args.out.now.items ++ flat_map run_bytes runs) (take_all c.loop-run.run-index c.args.runs.now (omega arith))

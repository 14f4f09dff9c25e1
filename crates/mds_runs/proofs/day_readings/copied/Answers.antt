use Rattle.std.proofs.Common.{◌≡◌, ◌≢◌, ◌<◌, ◌+◌, ◌++◌, ◌∷◌, ◌∙◌, [], ℕ, List, length, take, get_or, ap, sym, true≢false, arith}
use Rattle.std.proofs.lemmas.List.{take_all, take_more}
use Rattle.std.proofs.lemmas.Result.{IfOk-from_err, MatchResult-from_err}
use Rattle.mds_marks.specs.declared.mark.Mark.{Mark}
use Rattle.mds_runs.specs.declared.cover.Run.{Run}
use Rattle.mds_runs.proofs.day_readings.copied.Goals as goal

-- one more run
next : (runs kept new : List Run) (k : ℕ) (run : Run) (mark : Mark) → k < length runs → run ≡ get_or runs k run → mark ≡ run.mark → kept ≡ take k runs → new ≡ kept ++ record { first = run.first; last = run.last; mark = mark } ∷ [] → new ≡ take (k + 1) runs
next runs kept new k run mark lt is same before after =
    let there : new ≡ kept ++ run ∷ [] = after ∙ ap (λ (m : Mark). kept ++ record { first = run.first; last = run.last; mark = m } ∷ []) same in
    there ∙ ap (λ xs. xs ++ run ∷ []) before ∙ ap (λ x. take k runs ++ x ∷ []) is ∙ sym (take_more runs k run lt)

pub returns-in_err-copies-clause-value : goal.returns-in_err-copies-clause-value
returns-in_err-copies-clause-value c = IfOk-from_err _ _ c.from_residual.ensures.0

pub returns-in_err-copies-clause-memory : goal.returns-in_err-copies-clause-memory
returns-in_err-copies-clause-memory c =
    MatchResult-from_err c.from_residual.result _ _ c.from_residual.ensures.0 (λ _.
    let some : length c.args.runs.now ≢ 0 = λ none. true≢false (sym (c.in_err-copies.ensures.succeeds none)) in
    omega arith)

pub returns-in_err-try_clone-clause-value : goal.returns-in_err-try_clone-clause-value
returns-in_err-try_clone-clause-value c = IfOk-from_err _ _ c.from_residual-in_err-try_clone.ensures.0

pub returns-in_err-try_clone-clause-memory : goal.returns-in_err-try_clone-clause-memory
returns-in_err-try_clone-clause-memory c =
    MatchResult-from_err c.from_residual-in_err-try_clone.result _ _ c.from_residual-in_err-try_clone.ensures.0 (λ _. omega arith)

pub returns-in_err-push-clause-value : goal.returns-in_err-push-clause-value
returns-in_err-push-clause-value c = IfOk-from_err _ _ c.from_residual-in_err-push.ensures.0

pub returns-in_err-push-clause-memory : goal.returns-in_err-push-clause-memory
returns-in_err-push-clause-memory c =
    MatchResult-from_err c.from_residual-in_err-push.result _ _ c.from_residual-in_err-push.ensures.0 (λ _. omega arith)

pub loop-run-preserved : goal.loop-run-preserved
loop-run-preserved c =
    next c.args.runs.now _ _ c.loop-run.run-index c.run-item.result _ c.loop-run-test.true c.run-item.is c.in_ok-try_clone.ensures.value c.loop-run.invariant
    c.in_ok-push.ensures.items

pub returns-clause-value : goal.returns-clause-value
returns-clause-value c = c.loop-run.invariant ∙ take_all c.loop-run.run-index c.args.runs.now (omega arith)

pub loop-run-init : goal.loop-run-init
loop-run-init c = c.in_ok-copies.ensures.items

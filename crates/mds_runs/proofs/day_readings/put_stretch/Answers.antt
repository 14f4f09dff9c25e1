use Rattle.std.proofs.Common.{◌≡◌, ◌++◌, [], ◌∷◌, ap, sym, subst, refl, ◌∙◌, true, false}
use Rattle.std.proofs.lemmas.Result.{IfOk-from_err, MatchResult-from_err}
use Rattle.mds_marks.specs.declared.mark.Mark.{Mark}
use Rattle.mds_runs.specs.KeptReadings.{AreClose, marks_in}
use Rattle.mds_runs.specs.Runs.{last_end}
use Rattle.mds_runs.proofs.CloseRuns.{EndsWith, ends-from, ends-to, last_mark, lengthened-close, lengthened-marks, push-close, push-marks, run_behind}
use Rattle.mds_runs.proofs.day_readings.put_stretch.Goals as goal

-- the last run has the mark, as the test told
ends : (c : goal.After-lengthen) → EndsWith c.args.runs.now.items c.args.mark.now
ends c = ends-from c.args.runs.now.items c.args.mark.now (ap last_mark (sym c.deref.ensures.value) ∙ c.ends_with.ensures.0 c.if-ends_with.true)

pub returns-then-ends_with-clause-close : goal.returns-then-ends_with-clause-close
returns-then-ends_with-clause-close c =
    subst (λ l. AreClose 0 l c.args.end) (sym c.lengthen.ensures) (lengthened-close 0 c.args.runs.now.items (last_end c.args.runs.now.items) c.args.end c.args.mark.now c.requires.close (ends c) c.requires.more)

pub returns-then-ends_with-clause-marks : goal.returns-then-ends_with-clause-marks
returns-then-ends_with-clause-marks c =
    ap (marks_in 0) c.lengthen.ensures ∙ lengthened-marks 0 c.args.runs.now.items (last_end c.args.runs.now.items) c.args.end c.args.mark.now c.requires.close (ends c) c.requires.more

-- the runs with one more
pushed : (c : goal.In_ok-push) → c.push.new.self.items ≡ c.args.runs.now.items ++ run_behind (last_end c.args.runs.now.items) c.args.end c.args.mark.now ∷ []
pushed c =
    let end : c.last_end-first.result ≡ last_end c.args.runs.now.items = c.last_end-first.ensures ∙ ap last_end c.deref-2.ensures.value in
    c.in_ok-push.ensures.items
    ∙ ap (λ l. l ++ run_behind c.last_end-first.result c.args.end c.in_ok-mark.mark ∷ []) c.make_room.ensures
    ∙ ap (λ n. c.args.runs.now.items ++ run_behind n c.args.end c.in_ok-mark.mark ∷ []) end
    ∙ ap (λ (m : Mark). c.args.runs.now.items ++ run_behind (last_end c.args.runs.now.items) c.args.end m ∷ []) c.in_ok-mark.ensures.value

other : (c : goal.In_ok-push) → EndsWith c.args.runs.now.items c.args.mark.now → ⊥
other c e =
    let t : c.ends_with.result ≡ true = c.ends_with.ensures.1 (ap last_mark c.deref.ensures.value ∙ ends-to c.args.runs.now.items c.args.mark.now e) in
    let f : true ≡ false = sym t ∙ c.if-ends_with.false in
    cc

pub returns-clause-close : goal.returns-clause-close
returns-clause-close c =
    subst (λ l. AreClose 0 l c.args.end) (sym (pushed c)) (push-close 0 c.args.runs.now.items (last_end c.args.runs.now.items) c.args.end c.args.mark.now c.requires.close (other c) c.requires.more)

pub returns-clause-marks : goal.returns-clause-marks
returns-clause-marks c =
    ap (marks_in 0) (pushed c) ∙ push-marks 0 c.args.runs.now.items (last_end c.args.runs.now.items) c.args.end c.args.mark.now c.requires.close

pub returns-in_err-mark-clause-close : goal.returns-in_err-mark-clause-close
returns-in_err-mark-clause-close c = IfOk-from_err _ _ c.from_residual.ensures.0

pub returns-in_err-mark-clause-marks : goal.returns-in_err-mark-clause-marks
returns-in_err-mark-clause-marks c = IfOk-from_err _ _ c.from_residual.ensures.0

pub returns-in_err-mark-clause-kept : goal.returns-in_err-mark-clause-kept
returns-in_err-mark-clause-kept c = MatchResult-from_err c.from_residual.result _ _ c.from_residual.ensures.0 (λ _. refl)

pub returns-in_err-make_room-clause-close : goal.returns-in_err-make_room-clause-close
returns-in_err-make_room-clause-close c = IfOk-from_err _ _ c.from_residual-in_err-make_room.ensures.0

pub returns-in_err-make_room-clause-marks : goal.returns-in_err-make_room-clause-marks
returns-in_err-make_room-clause-marks c = IfOk-from_err _ _ c.from_residual-in_err-make_room.ensures.0

pub returns-in_err-make_room-clause-kept : goal.returns-in_err-make_room-clause-kept
returns-in_err-make_room-clause-kept c = MatchResult-from_err c.from_residual-in_err-make_room.result _ _ c.from_residual-in_err-make_room.ensures.0 (λ _. c.make_room.ensures)

pub returns-in_err-push-clause-close : goal.returns-in_err-push-clause-close
returns-in_err-push-clause-close c = IfOk-from_err _ _ c.from_residual-in_err-push.ensures.0

pub returns-in_err-push-clause-marks : goal.returns-in_err-push-clause-marks
returns-in_err-push-clause-marks c = IfOk-from_err _ _ c.from_residual-in_err-push.ensures.0

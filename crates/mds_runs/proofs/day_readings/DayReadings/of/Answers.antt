use Rattle.std.proofs.Common.{◌≡◌, ◌<◌, ◌+◌, ◌++◌, ◌∷◌, ◌∙◌, ◌&&◌, [], ℕ, ℤ, Bool, List, Option, true, false, length, take, get_or, ap, sym, arith}
use Rattle.std.proofs.lemmas.List.{length-take-le, take_all, take_more}
use Rattle.std.proofs.lemmas.Result.{IfOk-from_err, MatchResult-from_err}
use Rattle.mds_marks.specs.Mark.{is_mark}
use Rattle.mds_marks.specs.Reading.{ReadingValue, is_lawful, is_reading, is_value}
use Rattle.mds_marks.specs.declared.mark.Mark.{Mark}
use Rattle.mds_runs.proofs.day_readings.DayReadings.of.Goals as goal

last : (a b c : Bool) → (a && b && c) ≡ true → c ≡ true
last true true c e = e
last true false c e = absurd cc
last false b c e = absurd cc

goes : (r : ReadingValue) (mark : Mark) (value : Option ℤ) → mark ≡ r.mark → value ≡ r.value → is_lawful r ≡ true → is_reading mark.quality.flag value ≡ true
goes r mark value same is lawful = rw (same, is) (last (is_mark r.mark) (is_value r.value) _ lawful)

-- one more reading
next : (readings kept new : List ReadingValue) (k : ℕ) (r : ReadingValue) (mark : Mark) (value : Option ℤ) → k < length readings → r ≡ get_or readings k r → mark ≡ r.mark → value ≡ r.value → kept ≡ take k readings → new ≡ kept ++ record { mark = mark; value = value } ∷ [] → new ≡ take (k + 1) readings
next readings kept new k r mark value lt is same has before after =
    let there : new ≡ kept ++ r ∷ [] = rw (← same, ← has) after in
    there ∙ ap (λ xs. xs ++ r ∷ []) before ∙ ap (λ x. take k readings ++ x ∷ []) is ∙ sym (take_more readings k r lt)

pub returns-in_err-kept-clause-value : goal.returns-in_err-kept-clause-value
returns-in_err-kept-clause-value c = IfOk-from_err _ _ c.from_residual.ensures.0

pub returns-in_err-kept-clause-memory : goal.returns-in_err-kept-clause-memory
returns-in_err-kept-clause-memory c = MatchResult-from_err c.from_residual.result _ _ c.from_residual.ensures.0 (λ _. c.in_err-kept.ensures.memory)

pub push-requires-clause-few : goal.push-requires-clause-few
push-requires-clause-few c =
    let n : length c.loop-reading.kept ≡ c.loop-reading.reading-index = ap length c.loop-reading.invariant ∙ length-take-le _ c.args.readings.now (omega arith) in
    omega arith

pub push-requires-clause-together : goal.push-requires-clause-together
push-requires-clause-together c = goes c.reading-item.result _ _ c.mark.ensures.value c.value.ensures.value c.mark.ensures.known

pub returns-in_err-push-clause-value : goal.returns-in_err-push-clause-value
returns-in_err-push-clause-value c = IfOk-from_err _ _ c.from_residual-in_err-push.ensures.0

pub returns-in_err-push-clause-memory : goal.returns-in_err-push-clause-memory
returns-in_err-push-clause-memory c = MatchResult-from_err c.from_residual-in_err-push.result _ _ c.from_residual-in_err-push.ensures.0 (λ _. omega arith)

pub loop-reading-preserved : goal.loop-reading-preserved
loop-reading-preserved c = next c.args.readings.now _ _ c.loop-reading.reading-index c.reading-item.result _ _ c.loop-reading-test.true c.reading-item.is c.mark.ensures.value c.value.ensures.value c.loop-reading.invariant c.in_ok-push.ensures

pub returns-clause-value : goal.returns-clause-value
returns-clause-value c = c.loop-reading.invariant ∙ take_all c.loop-reading.reading-index c.args.readings.now (omega arith)

use Rattle.std.proofs.Common.{◌≡◌, ◌+◌, ◌-◌, ◌≤◌, ℕ, List, [], Some, Result, length, slice_get, ap, inr, ◌∙◌, sym, subst, arith}
use Rattle.std.proofs.lemmas.Result.{IfOk-from_err, err_from_is_err_and}
use Rattle.std.specs.Result.{IfErr, IsErrAnd}
use Rattle.mds_keeper.specs.DayMerges.{IfRefused}
use Rattle.mds_keeper.specs.declared.day_merge.Stop.{Stop}
use Rattle.mds_keeper.specs.declared.day_merge.Stop.TheVariants.{Memory}
use Rattle.mds_keeper.specs.declared.refusal.Refusal.{Refusal}
use Rattle.mds_jobs.specs.Jobs.{content_of}
use Rattle.mds_fill.specs.Fills.{target_count}
use Rattle.mds_fill.specs.FillSteps.{AreFilled}
use Rattle.mds_marks.specs.Reading.{ReadingValue}
use Rattle.mds_world.specs.Facts.{JobContent}
use Rattle.mds_world.specs.World.{World}
use Rattle.mds_fill.proofs.FillLemmas.{filled_more, substitute_is}
use Rattle.mds_fill.proofs.filling.readings.Goals as goal

-- no readings yet
none_filled : (w : World) (job : JobContent) (count : ℕ) (readings : List ReadingValue) → count ≡ 0 → readings ≡ [] → AreFilled w job count readings
none_filled w job count readings none is = record {
  many = ap length is ∙ sym none;
  each = λ k reading h. absurd (nothing k reading (ap (λ xs. slice_get xs k) (sym is) ∙ h));
}
  where
    nothing : (k : ℕ) (reading : ReadingValue) → slice_get [] k ≡ Some reading → ⊥
    nothing k reading h = absurd (cc)

-- a want of memory breaks no rule
unrefused : {T : Type 0} (P : Refusal → Type 0) (result : Result T Stop) → IsErrAnd result (λ stop. stop ≡ Memory)
    → IfErr result (λ stop. IfRefused stop P)
unrefused P result h = let p = err_from_is_err_and result h in rw (p.1, p.2) tt

pub loop-interval-preserved : goal.loop-interval-preserved
loop-interval-preserved c =
    let i = c.loop-interval.interval in
    let low = c.loop-interval.auto.interval in
    let job = content_of c.args.job.now in
    record {
      count = omega (arith, low, c.in_ok-push.ensures.len, c.loop-interval.invariant.count);
      filled = λ w is source.
          let at : i ≡ job.first + (i - job.first) = omega (arith, low) in
          let next : i + 1 - job.first ≡ i - job.first + 1 = omega (arith, low) in
          let s = c.in_ok-reading.ensures in
          filled_more w job i (i - job.first) (i + 1 - job.first) _ _ c.in_ok-reading.reading at next c.in_ok-push.ensures.items
          (c.loop-interval.invariant.filled w is source)
          (substitute_is w job i _ c.in-Some.value s.0 s.1 (c.in-Some.ensures w is source));
    }

pub returns-clause-count : goal.returns-clause-count
returns-clause-count c =
    let job = content_of c.args.job.now in
    let low = c.loop-interval.auto.interval in
    let high = c.loop-interval.auto.interval-end in
    let over = c.loop-interval-test.false in
    omega (arith, low, high, over, c.requires.in_order, c.loop-interval.invariant.count)

pub returns-clause-ok : goal.returns-clause-ok
returns-clause-ok c = λ w is source. let job = content_of c.args.job.now in
    let low = c.loop-interval.auto.interval in
    let high = c.loop-interval.auto.interval-end in
    let over = c.loop-interval-test.false in
    let all : c.loop-interval.interval - job.first ≡ target_count job = omega (arith, low, high, over, c.requires.in_order) in
    subst (λ n. AreFilled w job n c.loop-interval.readings.items) all (c.loop-interval.invariant.filled w is source)

pub returns-in_err-readings-clause-count : goal.returns-in_err-readings-clause-count
returns-in_err-readings-clause-count c = IfOk-from_err _ _ c.from_residual.ensures.0

pub returns-in_err-readings-clause-ok : goal.returns-in_err-readings-clause-ok
returns-in_err-readings-clause-ok c = λ w is source. IfOk-from_err _ _ c.from_residual.ensures.0

pub returns-in_err-readings-clause-refused : goal.returns-in_err-readings-clause-refused
returns-in_err-readings-clause-refused c = λ w is source. unrefused _ _ c.from_residual.ensures.1

pub returns-in_err-reading-clause-count : goal.returns-in_err-reading-clause-count
returns-in_err-reading-clause-count c = IfOk-from_err _ _ c.from_residual-in_err-reading.ensures.0

pub returns-in_err-reading-clause-ok : goal.returns-in_err-reading-clause-ok
returns-in_err-reading-clause-ok c = λ w is source. IfOk-from_err _ _ c.from_residual-in_err-reading.ensures.0

pub returns-in_err-reading-clause-refused : goal.returns-in_err-reading-clause-refused
returns-in_err-reading-clause-refused c = λ w is source. unrefused _ _ c.from_residual-in_err-reading.ensures.1

pub returns-in_err-push-clause-count : goal.returns-in_err-push-clause-count
returns-in_err-push-clause-count c = IfOk-from_err _ _ c.from_residual-in_err-push.ensures.0

pub returns-in_err-push-clause-ok : goal.returns-in_err-push-clause-ok
returns-in_err-push-clause-ok c = λ w is source. IfOk-from_err _ _ c.from_residual-in_err-push.ensures.0

pub returns-in_err-push-clause-refused : goal.returns-in_err-push-clause-refused
returns-in_err-push-clause-refused c = λ w is source. unrefused _ _ c.from_residual-in_err-push.ensures.1

pub returns-in_default-clause-refused : goal.returns-in_default-clause-refused
returns-in_default-clause-refused c = λ w is source.
    let lacks = c.in_default.ensures w is source in
    let within : c.loop-interval.interval ≤ c.args.job.now.last = omega (arith, c.loop-interval-test.true) in
    (c.of_request.ensures, inr (lacks.0, (c.loop-interval.interval, (c.loop-interval.auto.interval, within), lacks.1)))

pub value_at-requires-clause-target : goal.value_at-requires-clause-target
value_at-requires-clause-target c = (c.loop-interval.auto.interval, omega (arith, c.loop-interval-test.true))

pub loop-interval-init : goal.loop-interval-init
loop-interval-init c =
    let none : c.args.job.now.first - c.args.job.now.first ≡ 0 = omega arith in
    record {
      count = ap length c.in_ok-readings.ensures.items ∙ sym none;
      filled = λ w is source. none_filled w (content_of c.args.job.now) _ _ none c.in_ok-readings.ensures.items;
    }

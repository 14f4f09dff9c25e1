use Rattle.std.proofs.Common.{◌+◌, ◌<◌, ◌≡◌, [], length, None, get_or, refl, sym, ap, subst, ◌∙◌, arith}
use Rattle.std.proofs.lemmas.Bool.{eqb-true}
use Rattle.std.proofs.lemmas.List.{get_or_read, nil_from_length}
use Rattle.std.proofs.lemmas.List.FromFn.{length-map-range_with_len}
use Rattle.mds_runs.specs.Runs.{mark_at, AreAscending}
use Rattle.mds_days.specs.Days.{DayValue, IsWhole}
use Rattle.mds_days.specs.Readings.{readings_of}
use Rattle.mds_days.proofs.Tallies.{pushed_all}
use Rattle.mds_days.proofs.Wholes.{GoOn-next, goes, readings_push}
use Rattle.std.proofs.lemmas.Result.{err_from_is_err_and}
use Rattle.mds_quantity.proofs.Front.{on_err_from}
use Rattle.mds_days.proofs.day.DayData.readings.Goals as goal

pub returns-then-is_empty-clause-value : goal.returns-then-is_empty-clause-value
returns-then-is_empty-clause-value c =
    let none : c.self.inside.cover.runs ≡ [] = sym c.runs-runs.ensures.value ∙ nil_from_length c.runs-runs.result.now (eqb-true (length c.runs-runs.result.now) 0 (sym c.is_empty.ensures ∙ c.if-is_empty.true)) in
    subst (λ (day : DayValue). c.push_all.new.self ≡ readings_of (length day.values) day.mark day.runs day.values) c.self.view_is
    (pushed_all c.self.inside.mark c.self.inside.cover.runs c.self.inside.values c.as_slice.result.now c.in_ok-readings.readings c.push_all.new.self
    none c.as_slice.ensures.value c.in_ok-readings.ensures.value c.in_ok-push_all.ensures.done)

pub push_reading-requires-clause-few : goal.push_reading-requires-clause-few
push_reading-requires-clause-few c =
    omega (arith, ap length c.as_slice-value-items.ensures.value, ap length c.loop-k.invariant.0 ∙ length-map-range_with_len _ 1 c.loop-k.k)

pub push_reading-requires-clause-together : goal.push_reading-requires-clause-together
push_reading-requires-clause-together c =
    let lt : c.loop-k.k < length c.self.inside.values = omega (arith, ap length c.as_slice-value-items.ensures.value) in
    goes _ c.self.invariant.0 (subst IsWhole (sym c.self.view_is) c.requires) c.loop-k.k lt _ _
    (c.mark_from.ensures.mark ∙ c.loop-k.invariant.1.marks (c.loop-k.k + 1) (omega arith))
    (get_or_read _ _ _ c.loop-k-test.true c.value-item.is None ∙ ap (λ values. get_or values c.loop-k.k None) c.as_slice-value-items.ensures.value)

pub loop-k-preserved : goal.loop-k-preserved
loop-k-preserved c = (
  readings_push c.self.inside.mark c.self.inside.cover.runs c.self.inside.values c.loop-k.k _ _ _ _ _ c.loop-k.invariant.0 c.in_ok-push_reading.ensures refl
      (c.mark_from.ensures.mark ∙ c.loop-k.invariant.1.marks (c.loop-k.k + 1) (omega arith))
      (get_or_read _ _ _ c.loop-k-test.true c.value-item.is None ∙ ap (λ values. get_or values c.loop-k.k None) c.as_slice-value-items.ensures.value),
  GoOn-next _ _ _ _ c.loop-k.k c.loop-k.invariant.1 c.mark_from.ensures.lawful c.mark_from.ensures.later,
)

pub returns-in_err-readings-clause-value : goal.returns-in_err-readings-clause-value
returns-in_err-readings-clause-value c = let p = err_from_is_err_and c.from_residual.result c.from_residual.ensures.1 in rw p.1 tt

pub returns-in_err-readings-clause-memory : goal.returns-in_err-readings-clause-memory
returns-in_err-readings-clause-memory c =
    let size = ap (λ (day : DayValue). length day.values) c.self.view_is in
    on_err_from c.from_residual.result _ (omega (arith, size, c.in_err-readings.ensures.memory, c.count.ensures))

pub push_all-requires-clause-few : goal.push_all-requires-clause-few
push_all-requires-clause-few c =
    omega (arith, ap length c.in_ok-readings.ensures.value, ap length c.as_slice.ensures.value, c.as_slice.ensures.few)

pub push_all-requires-clause-together : goal.push_all-requires-clause-together
push_all-requires-clause-together c = λ k lt.
    let inside = c.self.inside in
    let none : inside.cover.runs ≡ [] = sym c.runs-runs.ensures.value ∙ nil_from_length c.runs-runs.result.now (eqb-true (length c.runs-runs.result.now) 0 (sym c.is_empty.ensures ∙ c.if-is_empty.true)) in
    let within : k < length inside.values = omega (arith, lt, ap length c.as_slice.ensures.value) in
    goes _ c.self.invariant.0 (subst IsWhole (sym c.self.view_is) c.requires) k within _ _ (ap (λ runs. mark_at runs inside.mark (k + 1)) (sym none))
    (ap (λ values. get_or values k None) c.as_slice.ensures.value)

pub returns-in_err-push_all-clause-value : goal.returns-in_err-push_all-clause-value
returns-in_err-push_all-clause-value c =
    let p = err_from_is_err_and c.from_residual-in_err-push_all.result c.from_residual-in_err-push_all.ensures.1 in rw p.1 tt

pub returns-in_err-push_all-clause-memory : goal.returns-in_err-push_all-clause-memory
returns-in_err-push_all-clause-memory c =
    let size = ap (λ (day : DayValue). length day.values) c.self.view_is in
    on_err_from c.from_residual-in_err-push_all.result _ (omega (arith, size, c.in_err-push_all.ensures.memory, ap length c.as_slice.ensures.value))

pub loop-k-init : goal.loop-k-init
loop-k-init c = (
  c.in_ok-readings.ensures.value,
  record {
    ascending = subst AreAscending (sym c.runs-runs.ensures.value) (c.self.inside.cover.count, 0, c.runs-runs.ensures.lawful);
    marks = λ i lo. ap (λ runs. mark_at runs c.self.inside.mark i) c.runs-runs.ensures.value;
  },
)

pub overflow_cast-k : goal.overflow_cast-k
overflow_cast-k c = omega (arith, c.as_slice-value-items.ensures.few, ap length c.as_slice-value-items.ensures.value)

pub overflow_add-k : goal.overflow_add-k
overflow_add-k c = omega (arith, c.as_slice-value-items.ensures.few, ap length c.as_slice-value-items.ensures.value)

pub mark_from-requires : goal.mark_from-requires
mark_from-requires c = c.loop-k.invariant.1.ascending

pub returns-in_err-push_reading-clause-value : goal.returns-in_err-push_reading-clause-value
returns-in_err-push_reading-clause-value c =
    let p = err_from_is_err_and c.from_residual-in_err-push_reading.result c.from_residual-in_err-push_reading.ensures.1 in rw p.1 tt

pub returns-in_err-push_reading-clause-memory : goal.returns-in_err-push_reading-clause-memory
returns-in_err-push_reading-clause-memory c =
    let size = ap (λ (day : DayValue). length day.values) c.self.view_is in
    on_err_from c.from_residual-in_err-push_reading.result _ (omega (arith, size, c.loop-k-test.true, ap length c.as_slice-value-items.ensures.value))

pub returns-clause-value : goal.returns-clause-value
returns-clause-value c =
    let inside = c.self.inside in
    let all : c.loop-k.k ≡ length inside.values = omega (arith, ap length c.as_slice-value-items.ensures.value) in
    c.loop-k.invariant.0 ∙ ap (λ n. readings_of n inside.mark inside.cover.runs inside.values) all
    ∙ ap (λ (day : DayValue). readings_of (length day.values) day.mark day.runs day.values) c.self.view_is

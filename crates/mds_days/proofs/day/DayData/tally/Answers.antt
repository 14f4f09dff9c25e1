use Rattle.std.proofs.Common.{rules, ◌≡◌, ◌+◌, [], length, sym, None, get_or, ap, ◌∙◌, arith, refl, subst}
use Rattle.std.proofs.lemmas.Bool.{eqb-true}
use Rattle.std.proofs.lemmas.List.{get_or_read, nil_from_length}
use Rattle.mds_days.specs.Days.{DayValue}
use Rattle.mds_days.specs.Readings.{amounts, readings_of, total}
use Rattle.mds_days.proofs.Tallies.{Counts-more}
use Rattle.mds_days.proofs.Wholes.{GoOn-next}
use Rattle.mds_runs.specs.Runs.{AreAscending, mark_at}
use Rattle.mds_days.proofs.day.DayData.tally.Goals as goal

pub loop-k-preserved : goal.loop-k-preserved
loop-k-preserved c = (
  Counts-more c.loop-k.k c.self.inside.mark c.self.inside.cover.runs c.self.inside.values c.loop-k.tally c.add.new.self c.mark_from.result.0.now c.value-item.result c.loop-k.invariant.0
      (c.mark_from.ensures.mark ∙ c.loop-k.invariant.1.marks (c.loop-k.k + 1) (omega arith))
      (get_or_read _ _ _ c.loop-k-test.true c.value-item.is None ∙ ap (λ values. get_or values c.loop-k.k None) c.as_slice-value-items.ensures.value)
      c.add.ensures.count c.add.ensures.total c.add.ensures.small,
  GoOn-next _ _ _ _ c.loop-k.k c.loop-k.invariant.1 c.mark_from.ensures.lawful c.mark_from.ensures.later,
)

pub own_tally-requires-clause-sum : goal.own_tally-requires-clause-sum
own_tally-requires-clause-sum c = search rules

pub own_tally-requires-clause-valued : goal.own_tally-requires-clause-valued
own_tally-requires-clause-valued c = search rules

pub returns-then-is_empty-clause-count : goal.returns-then-is_empty-clause-count
returns-then-is_empty-clause-count c =
    let inside = c.self.inside in
    let none : inside.cover.runs ≡ [] = sym c.runs-runs.ensures.value ∙ nil_from_length c.runs-runs.result.now (eqb-true (length c.runs-runs.result.now) 0 (sym c.is_empty.ensures ∙ c.if-is_empty.true)) in
    c.own_tally.ensures.count ∙ ap (λ values. length (amounts (readings_of (length values) inside.mark [] values))) c.as_slice.ensures.value
    ∙ ap (λ runs. length (amounts (readings_of (length inside.values) inside.mark runs inside.values))) (sym none)
    ∙ ap (λ (day : DayValue). length (amounts (readings_of (length day.values) day.mark day.runs day.values))) c.self.view_is

pub returns-then-is_empty-clause-total : goal.returns-then-is_empty-clause-total
returns-then-is_empty-clause-total c =
    let inside = c.self.inside in
    let none : inside.cover.runs ≡ [] = sym c.runs-runs.ensures.value ∙ nil_from_length c.runs-runs.result.now (eqb-true (length c.runs-runs.result.now) 0 (sym c.is_empty.ensures ∙ c.if-is_empty.true)) in
    c.own_tally.ensures.total ∙ ap (λ values. total (amounts (readings_of (length values) inside.mark [] values))) c.as_slice.ensures.value
    ∙ ap (λ runs. total (amounts (readings_of (length inside.values) inside.mark runs inside.values))) (sym none)
    ∙ ap (λ (day : DayValue). total (amounts (readings_of (length day.values) day.mark day.runs day.values))) c.self.view_is

pub loop-k-init : goal.loop-k-init
loop-k-init c = (
  record { few = omega arith; count = refl; sum = refl; small = omega arith },
  record {
    ascending = subst AreAscending (sym c.runs-runs.ensures.value) (c.self.inside.cover.count, 0, c.runs-runs.ensures.lawful);
    marks = λ i lo. ap (λ runs. mark_at runs c.self.inside.mark i) c.runs-runs.ensures.value;
  },
)

pub overflow_cast-k : goal.overflow_cast-k
overflow_cast-k c = omega (arith, c.as_slice-value-items.ensures.few, ap length c.as_slice-value-items.ensures.value)

pub overflow_add-k : goal.overflow_add-k
overflow_add-k c = omega (arith, c.as_slice-value-items.ensures.few, ap length c.as_slice-value-items.ensures.value)

pub mark_from-requires : goal.mark_from-requires
mark_from-requires c = c.loop-k.invariant.1.ascending

pub add-requires-clause-few : goal.add-requires-clause-few
add-requires-clause-few c =
    omega (arith, c.loop-k.invariant.0.few, c.as_slice-value-items.ensures.few, ap length c.as_slice-value-items.ensures.value)

pub add-requires-clause-small : goal.add-requires-clause-small
add-requires-clause-small c = c.loop-k.invariant.0.small

pub returns-clause-count : goal.returns-clause-count
returns-clause-count c =
    let inside = c.self.inside in
    let all : c.loop-k.k ≡ length inside.values = omega (arith, ap length c.as_slice-value-items.ensures.value) in
    c.loop-k.invariant.0.count ∙ ap (λ n. length (amounts (readings_of n inside.mark inside.cover.runs inside.values))) all
    ∙ ap (λ (day : DayValue). length (amounts (readings_of (length day.values) day.mark day.runs day.values))) c.self.view_is

pub returns-clause-total : goal.returns-clause-total
returns-clause-total c =
    let inside = c.self.inside in
    let all : c.loop-k.k ≡ length inside.values = omega (arith, ap length c.as_slice-value-items.ensures.value) in
    c.loop-k.invariant.0.sum ∙ ap (λ n. total (amounts (readings_of n inside.mark inside.cover.runs inside.values))) all
    ∙ ap (λ (day : DayValue). total (amounts (readings_of (length day.values) day.mark day.runs day.values))) c.self.view_is

use Rattle.std.proofs.Common.{◌≡◌, ◌<◌, ℕ, ℤ, List, IfNone, IfSome, length, slice_get, arith, ap, subst, sym, ◌∙◌, true≢false, inl, inr}
use Rattle.std.proofs.lemmas.Bool.{cases_lt}
use Rattle.std.proofs.lemmas.Option.{slice_get_past}
use Rattle.mds_runs.proofs.KeptLemmas.{IsFirst, first-there, kept-length-in, none-there}
use Rattle.mds_runs.proofs.day_readings.DayReadings.first_difference.Goals as goal

-- what is said of two lists is said of the same ones
carried : (P : List ℤ → List ℤ → Type 0) {ys ys' zs zs' : List ℤ} → ys ≡ ys' → zs ≡ zs' → P ys zs → P ys' zs'
carried P {ys} {ys'} {zs} {zs'} e f p = subst (λ l. P l zs') e (subst (λ l. P ys l) f p)

pub first_other-requires : goal.first_other-requires
first_other-requires c =
    let n = kept-length-in c.self.inside.runs.items c.self.inside.millionths.items c.args.self.now c.self.invariant c.self.view_is in
    let m = kept-length-in c.others.inside.runs.items c.others.inside.millionths.items c.args.others.now c.others.invariant c.others.view_is in
    record { as_many = ap length c.deref-then-have_same_runs.ensures.value ∙ n ∙ c.requires.as_many ∙ sym m ∙ sym (ap length c.deref-then-have_same_runs-2.ensures.value) }

-- the runs are the same, as the test told
same_runs : (c : goal.After-first_other) → c.self.inside.runs.items ≡ c.others.inside.runs.items
same_runs c = sym c.deref.ensures.value ∙ c.have_same_runs.ensures c.if-have_same_runs.true ∙ c.deref-2.ensures.value

pub returns-then-have_same_runs-clause-some : goal.returns-then-have_same_runs-clause-some
returns-then-have_same_runs-clause-some c =
    first-there c.first_other.result c.self.inside.runs.items c.others.inside.runs.items c.self.inside.millionths.items c.others.inside.millionths.items c.args.self.now c.args.others.now (same_runs c) c.self.invariant c.others.invariant c.self.view_is c.others.view_is c.requires.as_many
    (carried (λ ys zs. IfSome c.first_other.result (λ at. IsFirst ys zs at)) c.deref-then-have_same_runs.ensures.value c.deref-then-have_same_runs-2.ensures.value c.first_other.ensures.some)

pub returns-then-have_same_runs-clause-none : goal.returns-then-have_same_runs-clause-none
returns-then-have_same_runs-clause-none c =
    none-there c.first_other.result c.self.inside.runs.items c.others.inside.runs.items c.self.inside.millionths.items c.others.inside.millionths.items c.args.self.now c.args.others.now (same_runs c) c.self.view_is c.others.view_is
    (carried (λ ys zs. IfNone c.first_other.result ((k : ℕ) → slice_get ys k ≡ slice_get zs k)) c.deref-then-have_same_runs.ensures.value c.deref-then-have_same_runs-2.ensures.value c.first_other.ensures.none)

here : (c : goal.In-loop-at) → c.loop-at.at < length c.args.self.now
here c =
    let n = kept-length-in c.self.inside.runs.items c.self.inside.millionths.items c.args.self.now c.self.invariant c.self.view_is in
    omega (arith, n, c.self.inside.millionths.ok.0)

pub is_same_at-requires-clause-here : goal.is_same_at-requires-clause-here
is_same_at-requires-clause-here c = here c

pub is_same_at-requires-clause-there : goal.is_same_at-requires-clause-there
is_same_at-requires-clause-there c = omega (arith, here c, c.requires.as_many)

pub returns-then-not-is_same_at-clause-some : goal.returns-then-not-is_same_at-clause-some
returns-then-not-is_same_at-clause-some c =
    let n = kept-length-in c.self.inside.runs.items c.self.inside.millionths.items c.args.self.now c.self.invariant c.self.view_is in
    (λ same. absurd (true≢false (sym (c.is_same_at.ensures.1 same) ∙ c.if-not-is_same_at.true)), c.loop-at.invariant, omega (arith, n, c.self.inside.millionths.ok.0))

pub loop-at-preserved : goal.loop-at-preserved
loop-at-preserved c k lt = elim (cases_lt k c.loop-at.at) [
  | inl before ↦ c.loop-at.invariant k before
  | inr last ↦
      let is : k ≡ c.loop-at.at = omega arith in
      ap (slice_get c.args.self.now) is ∙ c.is_same_at.ensures.0 c.if-not-is_same_at.false ∙ ap (slice_get c.args.others.now) (sym is)
]

pub returns-clause-none : goal.returns-clause-none
returns-clause-none c k =
    let n = kept-length-in c.self.inside.runs.items c.self.inside.millionths.items c.args.self.now c.self.invariant c.self.view_is in
    elim (cases_lt k c.loop-at.at) [
      | inl before ↦ c.loop-at.invariant k before
      | inr past ↦
          slice_get_past c.args.self.now k (omega (arith, n, past, c.self.inside.millionths.ok.0, c.len-at-end.ensures))
          ∙ sym (slice_get_past c.args.others.now k (omega (arith, n, past, c.self.inside.millionths.ok.0, c.len-at-end.ensures, c.requires.as_many)))
    ]

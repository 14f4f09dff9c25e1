use Rattle.std.proofs.Common.{◌≡◌, ◌<◌, ℕ, ℤ, List, Some, length, rules, pos, get_or, slice_get, of_z, w64, ap, sym, ◌∙◌, inl, inr, arith}
use Rattle.std.specs.Option.{unwrap_or}
use Rattle.std.proofs.lemmas.Bool.{cases_lt}
use Rattle.std.proofs.lemmas.Option.{slice_get-get_or, slice_get_past, unwrap_or-slice_get}
use Rattle.mds_runs.proofs.day_readings.first_other.Goals as goal

-- the same number is read at a place
reads : (xs ys : List ℤ) (k : ℕ) → slice_get xs k ≡ slice_get ys k → get_or xs k (pos 0) ≡ get_or ys k (pos 0)
reads xs ys k same = sym (unwrap_or-slice_get xs k (pos 0)) ∙ ap (λ o. unwrap_or o (pos 0)) same ∙ unwrap_or-slice_get ys k (pos 0)

alike : (xs ys : List ℤ) (k : ℕ) → k < length xs → k < length ys → get_or xs k (pos 0) ≡ get_or ys k (pos 0) → slice_get xs k ≡ slice_get ys k
alike xs ys k here there same = slice_get-get_or xs k (pos 0) here ∙ ap (λ z. Some z) same ∙ sym (slice_get-get_or ys k (pos 0) there)

pub returns-then-one-at-clause-some : goal.returns-then-one-at-clause-some
returns-then-one-at-clause-some c =
    (λ same. c.if-one-at.true (ap (of_z w64) (reads c.args.one.now c.args.other.now c.loop-at.at same)), c.loop-at.invariant, c.loop-at-test.true)

pub loop-at-preserved : goal.loop-at-preserved
loop-at-preserved c k lt =
    let same : get_or c.args.one.now c.loop-at.at (pos 0) ≡ get_or c.args.other.now c.loop-at.at (pos 0) = search rules in
    elim (cases_lt k c.loop-at.at) [
      | inl before ↦ c.loop-at.invariant k before
      | inr last ↦
          let is : k ≡ c.loop-at.at = omega arith in
          ap (slice_get c.args.one.now) is ∙ alike c.args.one.now c.args.other.now c.loop-at.at c.loop-at-test.true (omega (arith, c.loop-at-test.true, c.requires.as_many)) same ∙ ap (slice_get c.args.other.now) (sym is)
    ]

pub returns-clause-none : goal.returns-clause-none
returns-clause-none c k = elim (cases_lt k c.loop-at.at) [
  | inl before ↦ c.loop-at.invariant k before
  | inr past ↦
      slice_get_past c.args.one.now k (omega (arith, c.loop-at-test.false))
      ∙ sym (slice_get_past c.args.other.now k (omega (arith, c.loop-at-test.false, c.requires.as_many)))
]

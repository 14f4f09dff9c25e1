use Rattle.std.proofs.Common.{◌≡◌, ◌<◌, ◌≤◌, ◌+◌, ◌∙◌, ℕ, List, Option, Some, length, get_or, slice_get, refl, ap, sym, true≢false, inl, inr, arith}
use Rattle.std.specs.Prelude.{option_map}
use Rattle.std.proofs.lemmas.Bool.{cases_lt}
use Rattle.std.proofs.lemmas.Option.{slice_get_read}
use Rattle.mds_marks.specs.Reading.{ReadingValue}
use Rattle.mds_marks.specs.declared.mark.Mark.{Mark}
use Rattle.mds_packs.specs.Body.{mark_in}
use Rattle.mds_packs.proofs.packing.end_of_stretch.Goals as goal

-- the mark at a place, if there is one
abbrev at : List (Option ReadingValue) → ℕ → Option (Option Mark)
at readings k = option_map mark_in (slice_get readings k)

-- one more place with the mark of the first
one_more : (readings : List (Option ReadingValue)) (start end : ℕ) → ((k : ℕ) → start ≤ k → k < end → at readings k ≡ at readings start) → at readings end ≡ at readings start → (k : ℕ) → start ≤ k → k < end + 1 → at readings k ≡ at readings start
one_more readings start end before here k lo hi = elim (cases_lt k end) [
  | inl lt ↦ before k lo lt
  | inr ge ↦
      let is : k ≡ end = omega arith in
      ap (at readings) is ∙ here
]

-- what is read at a place
read : (readings : List (Option ReadingValue)) (k : ℕ) (x : Option ReadingValue) → k < length readings → x ≡ get_or readings k x → at readings k ≡ Some (mark_in x)
read readings k x lt is = ap (option_map mark_in) (slice_get_read readings (length readings) k x refl lt is)

alike : (readings : List (Option ReadingValue)) (start end : ℕ) (x y : Option ReadingValue) → start < length readings → end < length readings → x ≡ get_or readings start x → y ≡ get_or readings end y → mark_in y ≡ mark_in x → at readings end ≡ at readings start
alike readings start end x y first lt is has same =
    read readings end y lt has ∙ ap (λ o. Some o) same ∙ sym (read readings start x first is)

unlike : (readings : List (Option ReadingValue)) (start end : ℕ) (x y : Option ReadingValue) → start < length readings → end < length readings → x ≡ get_or readings start x → y ≡ get_or readings end y → at readings end ≡ at readings start → mark_in y ≡ mark_in x
unlike readings start end x y first lt is has same =
    let a = read readings end y lt has in
    let b = read readings start x first is in
    cc

pub loop-end-init : goal.loop-end-init
loop-end-init c = λ k lo hi.
    let is : k ≡ c.args.start = omega arith in
    ap (at c.args.readings.now) is

pub returns-then-not-are_alike-clause-alike : goal.returns-then-not-are_alike-clause-alike
returns-then-not-are_alike-clause-alike c = c.loop-end.invariant

pub returns-then-not-are_alike-clause-differs : goal.returns-then-not-are_alike-clause-differs
returns-then-not-are_alike-clause-differs c = λ lt same.
    let yes = c.are_alike.ensures.1 (unlike c.args.readings.now c.args.start c.loop-end.end _ _ c.requires lt c.index-readings-start.is c.index-readings-end.is same) in
    absurd (true≢false (sym yes ∙ c.if-not-are_alike.true))

pub loop-end-preserved : goal.loop-end-preserved
loop-end-preserved c =
    one_more c.args.readings.now c.args.start c.loop-end.end c.loop-end.invariant (alike _ _ _ _ _ c.requires c.loop-end-test.true c.index-readings-start.is c.index-readings-end.is (c.are_alike.ensures.0 c.if-not-are_alike.false))

pub returns-clause-alike : goal.returns-clause-alike
returns-clause-alike c = λ k lo hi. c.loop-end.invariant k lo (omega arith)

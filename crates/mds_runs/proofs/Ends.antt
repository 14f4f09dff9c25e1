-- Where equal elements of a list end.
use Rattle.std.proofs.Common.{◌≡◌, ◌<◌, ◌≤◌, ◌+◌, ◌∙◌, ℕ, List, Some, length, get_or, slice_get, refl, ap, sym, inl, inr, arith}
use Rattle.std.proofs.lemmas.Bool.{cases_lt}
use Rattle.std.proofs.lemmas.Option.{slice_get_read}

-- one more place that is like the first
pub one_more : {T : Type 0} (xs : List T) (start end : ℕ) → ((k : ℕ) → start ≤ k → k < end → slice_get xs k ≡ slice_get xs start) → slice_get xs end ≡ slice_get xs start → (k : ℕ) → start ≤ k → k < end + 1 → slice_get xs k ≡ slice_get xs start
one_more xs start end before here k lo hi = elim (cases_lt k end) [
  | inl lt ↦ before k lo lt
  | inr ge ↦
      let at : k ≡ end = omega arith in
      ap (slice_get xs) at ∙ here
]

-- what is read at two places
pub alike : {T : Type 0} (xs : List T) (start end : ℕ) (x y : T) → start < length xs → end < length xs → x ≡ get_or xs start x → y ≡ get_or xs end y → y ≡ x → slice_get xs end ≡ slice_get xs start
alike xs start end x y first lt is has same =
    slice_get_read xs (length xs) end y refl lt has ∙ ap (λ o. Some o) same ∙ sym (slice_get_read xs (length xs) start x refl first is)

pub unlike : {T : Type 0} (xs : List T) (start end : ℕ) (x y : T) → start < length xs → end < length xs → x ≡ get_or xs start x → y ≡ get_or xs end y → slice_get xs end ≡ slice_get xs start → y ≡ x
unlike xs start end x y first lt is has same =
    let a = slice_get_read xs (length xs) end y refl lt has in
    let b = slice_get_read xs (length xs) start x refl first is in
    cc

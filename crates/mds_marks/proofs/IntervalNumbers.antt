-- The number of an interval.
use Rattle.std.proofs.Common.{◌≡◌, ℕ, ◌<◌, ◌≤◌, ◌⊎◌, inl, inr, true, false, eqb, leb, List, [], ◌∷◌, length, Option, Some, None, if◌then◌else◌, refl, arith}
use Rattle.std.proofs.lemmas.Bool.Decides.{nat_tests}
use Rattle.std.specs.Char.{is_ascii_digit}
use Rattle.std.specs.List.{list_all}
use Rattle.std.specs.Str.Parse.{digits_value}
use Rattle.mds_marks.specs.Digits.{interval_number_of}

-- a text of a wrong length is none
pub no_interval_number : (text : List ℕ) → (eqb (length text) 0 ≡ true) ⊎ ((eqb (length text) 0 ≡ false) × (4 < length text)) → interval_number_of text ≡ None
unfolding interval_number_of
no_interval_number [] h = refl
no_interval_number (x ∷ xs) (inl h) = absurd (grind (arith, nat_tests))
no_interval_number (x ∷ xs) (inr h) =
    let long = h.1 in
    let some : leb 1 (length (x ∷ xs)) ≡ true = grind (arith, nat_tests) in
    let wrong : leb (length (x ∷ xs)) 4 ≡ false = grind (arith, nat_tests) in
    rw (some, wrong) refl

-- one of a right length is what its digits say
pub interval_number_is : (text : List ℕ) → eqb (length text) 0 ≡ false → length text ≤ 4
    → (if list_all is_ascii_digit text then Some (digits_value 10 text) else None) ≡ interval_number_of text
unfolding interval_number_of
interval_number_is [] h short = absurd (cc)
interval_number_is (x ∷ xs) h short =
    let some : leb 1 (length (x ∷ xs)) ≡ true = grind (arith, nat_tests) in
    let right : leb (length (x ∷ xs)) 4 ≡ true = grind (arith, nat_tests) in
    rw (some, right) refl

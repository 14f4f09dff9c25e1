-- A text is split at a separator in just one way.
use Rattle.std.proofs.Common.{◌≡◌, ◌≢◌, ℕ, ◌<◌, Bool, true, false, eqb, List, [], ◌∷◌, length, refl, sym, ◌∙◌, ap, arith, rules, get_or}
use Rattle.std.specs.List.{slice_split, onto_first, join_with_byte, All}
use Rattle.std.proofs.lemmas.Bool.Decides.{nat_tests}
use Rattle.std.proofs.lemmas.List.Elements.{All-nil, All-cons, All-head, All-tail, All-same}
use Rattle.std.proofs.lemmas.List.Splits.{slice_split_none, slice_split_at, join_with_byte-slice_split, length-slice_split, slice_split-cons_yes, slice_split-cons_no}
use Rattle.mds_lines.specs.Lines.{IsSplit, split}

-- an element that isn't the separator fails the test
pub apart_false : (c : ℕ) (xs : List ℕ) → All (λ x. x ≢ c) xs → All (λ x. eqb x c ≡ false) xs
apart_false c xs h = λ k d lt. let ne : get_or xs k d ≢ c = h k d lt in grind (arith, nat_tests)

-- an element more at the front of the first part
onto_first_apart : (c x : ℕ) (parts : List (List ℕ)) → x ≢ c → All (λ part. All (λ y. y ≢ c) part) parts
    → All (λ part. All (λ y. y ≢ c) part) (onto_first x parts)
onto_first_apart c x [] ne h = All-cons (λ part. All (λ y. y ≢ c) part) (x ∷ []) [] (All-cons (λ y. y ≢ c) x [] ne (All-nil (λ y. y ≢ c))) (All-nil (λ part. All (λ y. y ≢ c) part))
onto_first_apart c x (part ∷ parts) ne h =
    All-cons (λ p. All (λ y. y ≢ c) p) (x ∷ part) parts
    (All-cons (λ y. y ≢ c) x part ne (All-head (λ p. All (λ y. y ≢ c) p) part parts h))
    (All-tail (λ p. All (λ y. y ≢ c) p) part parts h)

-- one element more at the front of the text
parts_more : (c x : ℕ) (xs : List ℕ) (b : Bool) → eqb x c ≡ b → All (λ part. All (λ y. y ≢ c) part) (slice_split (λ b. eqb b c) xs)
    → All (λ part. All (λ y. y ≢ c) part) (slice_split (λ b. eqb b c) (x ∷ xs))
parts_more c x xs true e h = All-same (λ p. All (λ y. y ≢ c) p) _ ([] ∷ slice_split (λ b. eqb b c) xs) (slice_split-cons_yes (λ b. eqb b c) x xs e)
    (All-cons (λ p. All (λ y. y ≢ c) p) [] (slice_split (λ b. eqb b c) xs) (All-nil (λ y. y ≢ c)) h)
parts_more c x xs false e h =
    let ne : x ≢ c = grind (arith, nat_tests) in
    All-same (λ p. All (λ y. y ≢ c) p) _ (onto_first x (slice_split (λ b. eqb b c) xs)) (slice_split-cons_no (λ b. eqb b c) x xs e)
    (onto_first_apart c x (slice_split (λ b. eqb b c) xs) ne h)

-- no part has the separator
parts_apart : (c : ℕ) (xs : List ℕ) → All (λ part. All (λ y. y ≢ c) part) (slice_split (λ b. eqb b c) xs)
parts_apart c [] = All-cons (λ p. All (λ y. y ≢ c) p) [] [] (All-nil (λ y. y ≢ c)) (All-nil (λ p. All (λ y. y ≢ c) p))
parts_apart c (x ∷ xs) = parts_more c x xs (eqb x c) refl (parts_apart c xs)

-- the split is one
pub split_is_split : (c : ℕ) (text : List ℕ) → IsSplit c text (split c text)
split_is_split c text = record {
  some = omega (arith, length-slice_split (λ b. eqb b c) text);
  apart = parts_apart c text;
  joined = join_with_byte-slice_split c text;
}

-- the split is the only one
pub split_is_only : (c : ℕ) (parts : List (List ℕ)) → 0 < length parts → All (λ part. All (λ x. x ≢ c) part) parts → parts ≡ split c (join_with_byte c parts)
split_is_only c [] some h = absurd (omega arith)
split_is_only c (x ∷ []) some h = sym (slice_split_none (λ b. eqb b c) x (apart_false c x (All-head (λ p. All (λ y. y ≢ c) p) x [] h)))
split_is_only c (x ∷ y ∷ more) some h =
    let Apart : List (List ℕ) → Type 0 = λ ps. All (λ p. All (λ z. z ≢ c) p) ps in
    let tail = split_is_only c (y ∷ more) (omega arith) (All-tail (λ p. All (λ y. y ≢ c) p) x (y ∷ more) h) in
    let first = slice_split_at (λ b. eqb b c) x c (join_with_byte c (y ∷ more)) (apart_false c x (All-head (λ p. All (λ y. y ≢ c) p) x (y ∷ more) h)) (search (rules, nat_tests)) in
    ap (λ t. x ∷ t) tail ∙ sym first

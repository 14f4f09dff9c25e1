-- Sums of the values that are there.
use Rattle.std.proofs.Common.{◌≡◌, ◌+◌, ◌-◌, ◌*◌, ◌<◌, ◌≤◌, ℕ, ℤ, pos, ◌+ℤ◌, List, [], ◌∷◌, ◌++◌, length, take, get_or, Option, Some, None, refl, sym, ap, ◌∙◌, subst, arith, negsuc, to_z, of_z}
use Rattle.std.specs.Int.{w64, w128}
use Rattle.std.specs.Prelude.{unsigned_abs}
use Rattle.std.proofs.lemmas.Int.{fits_signed_from_abs, ints, to_z-of_z}
use Rattle.std.proofs.lemmas.List.{take_more}
use Rattle.mds_quantity.specs.Quantity.{limit}
use Rattle.mds_quantity.specs.Rounding.{IsRounded}
use Rattle.mds_fill.specs.Fills.{count_some, total}

-- one value more
total_some : (xs : List (Option ℤ)) (v : ℤ) → total (xs ++ Some v ∷ []) ≡ total xs +ℤ v
total_some [] v = omega (arith, ints)
total_some (Some x ∷ xs) v = omega (arith, ints, total_some xs v)
total_some (None ∷ xs) v = total_some xs v

total_none : (xs : List (Option ℤ)) → total (xs ++ None ∷ []) ≡ total xs
total_none [] = refl
total_none (Some x ∷ xs) = ap (λ t. x +ℤ t) (total_none xs)
total_none (None ∷ xs) = total_none xs

count_some_more : (xs : List (Option ℤ)) (v : ℤ) → count_some (xs ++ Some v ∷ []) ≡ count_some xs + 1
count_some_more [] v = refl
count_some_more (Some x ∷ xs) v = omega (arith, count_some_more xs v)
count_some_more (None ∷ xs) v = count_some_more xs v

count_none_more : (xs : List (Option ℤ)) → count_some (xs ++ None ∷ []) ≡ count_some xs
count_none_more [] = refl
count_none_more (Some x ∷ xs) = ap (λ n. 1 + n) (count_none_more xs)
count_none_more (None ∷ xs) = count_none_more xs

-- the value of a place that a loop comes to
next : (values : List (Option ℤ)) (i : ℕ) (slot wanted : Option ℤ) → i < length values → slot ≡ get_or values i slot
    → slot ≡ wanted → take (i + 1) values ≡ take i values ++ wanted ∷ []
next values i slot wanted within at is =
    take_more values i slot within ∙ ap (λ s. take i values ++ s ∷ []) (sym at ∙ is)

pub next_total : (values : List (Option ℤ)) (i : ℕ) (slot : Option ℤ) (v : ℤ) → i < length values
    → slot ≡ get_or values i slot → slot ≡ Some v → total (take (i + 1) values) ≡ total (take i values) +ℤ v
next_total values i slot v within at is =
    ap total (next values i slot (Some v) within at is) ∙ total_some (take i values) v

pub next_count : (values : List (Option ℤ)) (i : ℕ) (slot : Option ℤ) (v : ℤ) → i < length values
    → slot ≡ get_or values i slot → slot ≡ Some v → count_some (take (i + 1) values) ≡ count_some (take i values) + 1
next_count values i slot v within at is =
    ap count_some (next values i slot (Some v) within at is) ∙ count_some_more (take i values) v

pub same_total : (values : List (Option ℤ)) (i : ℕ) (slot : Option ℤ) → i < length values
    → slot ≡ get_or values i slot → slot ≡ None → total (take (i + 1) values) ≡ total (take i values)
same_total values i slot within at is =
    ap total (next values i slot None within at is) ∙ total_none (take i values)

pub same_count : (values : List (Option ℤ)) (i : ℕ) (slot : Option ℤ) → i < length values
    → slot ≡ get_or values i slot → slot ≡ None → count_some (take (i + 1) values) ≡ count_some (take i values)
same_count values i slot within at is =
    ap count_some (next values i slot None within at is) ∙ count_none_more (take i values)

-- the sum of a value and those before it, of which no part is too large
pub size_sum : (a v : ℤ) → unsigned_abs (a +ℤ v) ≤ unsigned_abs a + unsigned_abs v
size_sum (pos m) (pos n) = omega (arith, ints)
size_sum (pos m) (negsuc n) = omega (arith, ints)
size_sum (negsuc m) (pos n) = omega (arith, ints)
size_sum (negsuc m) (negsuc n) = omega (arith, ints)

pub sum_fits : (a v m f : ℤ) (n : ℕ) → n ≤ 4 → unsigned_abs a ≤ (limit - 1) * n → m ≡ v → unsigned_abs m < limit
    → f ≡ to_z w64 (of_z w64 m)
    → to_z w128 (of_z w128 (a +ℤ to_z w128 (of_z w128 f))) ≡ a +ℤ v
sum_fits a v m f n few small is below cast =
    let same : f ≡ m = cast ∙ to_z-of_z w64 m (fits_signed_from_abs w64 m (omega arith)) in
    let part = to_z-of_z w128 m (fits_signed_from_abs w128 m (omega arith)) in
    let size = size_sum a m in
    let whole = to_z-of_z w128 (a +ℤ m) (fits_signed_from_abs w128 (a +ℤ m) (omega (arith, size, small, few, below))) in
    rw (same, part, whole, is)

-- a sum of so few values keeps its value
pub sum_kept : (values : List (Option ℤ)) (sum : ℤ) (n : ℕ) → length values ≤ 4 → n ≡ count_some values
    → unsigned_abs sum ≤ (limit - 1) * n → to_z w128 (of_z w128 sum) ≡ sum
sum_kept values sum n few is small =
    let most = count_within values in
    to_z-of_z w128 sum (fits_signed_from_abs w128 sum (omega (arith, most, few, is, small)))
  where
    count_within : (values : List (Option ℤ)) → count_some values ≤ length values
    count_within [] = omega arith
    count_within (Some v ∷ rest) = omega (arith, count_within rest)
    count_within (None ∷ rest) = omega (arith, count_within rest)

pub rounded_as : (p q : ℤ) (n m : ℕ) (r : ℤ) → p ≡ q → n ≡ m → IsRounded p n r → IsRounded q m r
rounded_as p q n m r e f is = subst (λ k. IsRounded q k r) f (subst (λ z. IsRounded z n r) e is)

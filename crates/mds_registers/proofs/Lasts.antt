-- The last of a list, and another in its place.
use Rattle.std.proofs.Common.{◌≡◌, ℕ, ◌-◌, ◌<◌, List, [], ◌∷◌, ◌++◌, length, refl, sym, ap, ◌∙◌, subst, arith, slice_set, slice_index_or}
use Rattle.std.proofs.lemmas.List.{get_or_at, length-append, set_at}

has_last : {T : Type 0} (xs : List T) → 0 < length xs → (front : List T) × (last : T) × (xs ≡ front ++ last ∷ [])
has_last [] some = absurd (omega arith)
has_last (x ∷ []) some = ([], x, refl)
has_last (x ∷ y ∷ xs) some = let r = has_last (y ∷ xs) (omega arith) in (x ∷ r.0, r.1, ap (λ k. x ∷ k) r.2)

-- what stands before the last, which is x
pub before_last : {T : Type 0} (xs : List T) (n : ℕ) (x : T) → n ≡ length xs → 0 < n → x ≡ slice_index_or xs (n - 1) x
    → (front : List T) × (xs ≡ front ++ x ∷ []) × ((y : T) → slice_set xs (n - 1) y ≡ front ++ y ∷ [])
before_last {T = T} xs n x many some e =
    let r = has_last xs (omega arith) in
    let front = r.0 in
    let place : length front ≡ n - 1 = omega (arith, length-append front (r.1 ∷ []), ap length r.2) in
    let is : x ≡ r.1 =
    e ∙ ap (λ (ys : List T). slice_index_or ys (n - 1) x) r.2 ∙ get_or_at front r.1 [] x (n - 1) place in (
      front,
      subst (λ k. xs ≡ front ++ k ∷ []) (sym is) r.2,
      (λ y.
          ap (λ (ys : List T). slice_set ys (n - 1) y) r.2 ∙ set_at front r.1 [] y (n - 1) place),
    )

-- Lists that are determined: by their members where they ascend, and by their places.
use Rattle.std.specs.Prelude.{◌≡◌, ◌⊎◌, ℕ, ◌<◌, List, [], ◌∷◌, ◌++◌, length, slice_get, get_or, Some}
use Rattle.std.proofs.Common.{sym, ap, ◌∙◌, subst, inl, inr, refl}
use Rattle.std.specs.Cmp.{IsTotalOrder}
use Rattle.std.specs.List.{AllPairs}
use Rattle.std.specs.Ordering.{ordering_reverse}
use Rattle.std.specs.declared.cmp.Ordering.{Ordering}
use Rattle.std.specs.declared.cmp.Ordering.TheVariants.{Less}
use Rattle.std.proofs.lemmas.List.{same_lists}
use Rattle.std.proofs.lemmas.Option.{slice_get-get_or}
use Rattle.mds_world.specs.Lists.{Member}
use Rattle.mds_laws.specs.Determined.{OneByOne}
use Rattle.mds_ranges.proofs.Pairs.{pairs_head, pairs_tail}

-- lists of the same members, of which no two may stand before each other, are one
module _ {X : Type 0} (R : X → X → Type 0) (never : (x y : X) → R x y → R y x → ⊥) where
  pub one_ascending : (xs ys : List X) → AllPairs R xs → AllPairs R ys → ((x : X) → Member x xs → Member x ys)
      → ((x : X) → Member x ys → Member x xs) → xs ≡ ys
  one_ascending [] [] up other there back = refl
  one_ascending [] (y ∷ ys) up other there back = absurd (back y (inl refl))
  one_ascending (x ∷ xs) [] up other there back = absurd (there x (inl refl))
  one_ascending (x ∷ xs) (y ∷ ys) up other there back =
      let same : x ≡ y = elim (there x (inl refl)) [
        | inl e ↦ e
        | inr m ↦ elim (back y (inl refl)) [
          | inl e ↦ sym e
          | inr n ↦ absurd (never x y (pairs_head R x xs up y n) (pairs_head R y ys other x m))
        ]
      ] in
      let rest : xs ≡ ys = one_ascending xs ys (pairs_tail R x xs up) (pairs_tail R y ys other)
      (λ z m. elim (there z (inr m)) [
        | inl e ↦
            let h : R x x = subst (R x) (e ∙ sym same) (pairs_head R x xs up z m) in absurd (never x x h h)
        | inr k ↦ k
      ])
      (λ z m. elim (back z (inr m)) [
        | inl e ↦ let h : R y y = subst (R y) (e ∙ same) (pairs_head R y ys other z m) in absurd (never y y h h)
        | inr k ↦ k
      ]) in
      λ i. same i ∷ rest i

-- the first of a list, and the rest
pub same_first : {X : Type 0} (x y : X) (xs ys : List X) → x ∷ xs ≡ y ∷ ys → (x ≡ y) × (xs ≡ ys)
same_first x y xs ys e = (cc, cc)

-- in a total order no two are before each other
pub not_both_less : {X : Type 0} (R : X → X → Ordering) → IsTotalOrder R → (x y : X) → R x y ≡ Less → R y x ≡ Less → ⊥
not_both_less R total x y a b = let back = total.antisymm y x ∙ ap ordering_reverse a in cc (back, b)

-- lists of one length that are the same at each place
pub one_by_places : {X : Type 0} (xs ys : List X) → length xs ≡ length ys
    → ((k : ℕ) (x y : X) → slice_get xs k ≡ Some x → slice_get ys k ≡ Some y → x ≡ y) → xs ≡ ys
one_by_places xs ys long same = same_lists xs ys long (λ k d less.
    same k (get_or xs k d) (get_or ys k d) (slice_get-get_or xs k d less)
    (slice_get-get_or ys k d (subst (λ n. k < n) long less)))

-- lists that fit, one after the other
pub both_fit : {X : Type 0} (R : X → X → Type 0) (front other xs ys : List X) → OneByOne R front other → OneByOne R xs ys
    → OneByOne R (front ++ xs) (other ++ ys)
both_fit R [] [] xs ys m n = n
both_fit R [] (b ∷ other) xs ys m n = absurd m
both_fit R (a ∷ front) [] xs ys m n = absurd m
both_fit R (a ∷ front) (b ∷ other) xs ys m n = (m.0, both_fit R front other xs ys m.1 n)

-- Of two lists of rules, in each of which a rule holds or the rest is asked where it doesn't, the first or the rest of both.
pub first_of : {A B N M R S Q : Type 0} → (A → M → ⊥) → (B → N → ⊥) → (A → B → Q) → (R → S → Q)
    → A ⊎ (N × R) → B ⊎ (M × S) → Q
first_of out other_out here later (inl a) (inl b) = here a b
first_of out other_out here later (inl a) (inr (m, s)) = absurd (out a m)
first_of out other_out here later (inr (n, r)) (inl b) = absurd (other_out b n)
first_of out other_out here later (inr (n, r)) (inr (m, s)) = later r s

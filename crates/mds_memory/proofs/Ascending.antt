-- Ascending lists, by their members.
use Rattle.std.specs.Prelude.{◌≡◌, ◌<◌, ℕ, Bool, true, false, List, [], ◌∷◌, ◌++◌, length, slice_index_or, cond}
use Rattle.std.proofs.Common.{sym, ap, subst, inl, inr, suc, zero, refl, arith, ◌∙◌}
use mathlib.Core.Bool.{true≢false}
use Rattle.std.specs.List.{AllByRecursion, AllPairs, filter}
use Rattle.std.specs.List.Sorted.{IsStrictlySortedBy}
use Rattle.std.specs.declared.cmp.Ordering.{Ordering}
use Rattle.std.specs.declared.cmp.Ordering.TheVariants.{Less}
use Rattle.mds_world.proofs.Lists.{append_left, append_right, member_append}
use Rattle.mds_world.specs.Lists.{Apart, Member}

module _ {K : Type 0} (c : K → K → Ordering) where
  -- each stands before those after it
  abbrev pub Ascends : List K → Type 0
  Ascends [] = Unit {0}
  Ascends (k ∷ ks) = ((q : K) → Member q ks → c k q ≡ Less) × Ascends ks

  of_all : (k : K) (ks : List K) → AllByRecursion (λ y. c k y ≡ Less) ks → (q : K) → Member q ks → c k q ≡ Less
  of_all k [] a q m = absurd m
  of_all k (x ∷ ks) a q (inl e) = subst (λ y. c k y ≡ Less) (sym e) a.0
  of_all k (x ∷ ks) a q (inr m) = of_all k ks a.1 q m

  pub from_sorted : (ks : List K) → IsStrictlySortedBy c ks → Ascends ks
  unfolding IsStrictlySortedBy
  from_sorted [] s = tt
  from_sorted (k ∷ ks) s = (of_all k ks s.0, from_sorted ks s.1)

  pub push : (ks : List K) (x : K) → Ascends ks → ((q : K) → Member q ks → c q x ≡ Less) → Ascends (ks ++ x ∷ [])
  push [] x a below = ((λ q m. absurd m), tt)
  push (k ∷ ks) x a below = (
    (λ q m. elim (member_append q ks (x ∷ []) m) [
      | inl n ↦ a.0 q n
      | inr n ↦ elim n [ inl e ↦ subst (λ y. c k y ≡ Less) (sym e) (below k (inl refl)) | inr z ↦ absurd z ]
    ]),
    push ks x a.1 (λ q m. below q (inr m)),
  )

  pub join : (ks ls : List K) → Ascends ks → Ascends ls → ((q r : K) → Member q ks → Member r ls → c q r ≡ Less)
      → Ascends (ks ++ ls)
  join [] ls a b below = b
  join (k ∷ ks) ls a b below = (
    (λ q m. elim (member_append q ks ls m) [ inl n ↦ a.0 q n | inr n ↦ below k q (inl refl) n ]),
    join ks ls a.1 b (λ p q m n. below p q (inr m) n),
  )

  -- those of the front stand before those of the back
  pub across : (ks ls : List K) → Ascends (ks ++ ls) → (q r : K) → Member q ks → Member r ls → c q r ≡ Less
  across [] ls a q r m n = absurd m
  across (k ∷ ks) ls a q r (inl e) n = subst (λ y. c y r ≡ Less) (sym e) (a.0 r (append_right r ks ls n))
  across (k ∷ ks) ls a q r (inr m) n = across ks ls a.1 q r m n

  pub back : (ks ls : List K) → Ascends (ks ++ ls) → Ascends ls
  back [] ls a = a
  back (k ∷ ks) ls a = back ks ls a.1

  pub front : (ks ls : List K) → Ascends (ks ++ ls) → Ascends ks
  front [] ls a = tt
  front (k ∷ ks) ls a = ((λ q m. a.0 q (append_left q ks ls m)), front ks ls a.1)

  pub apart : ((k : K) → c k k ≡ Less → ⊥) → (ks : List K) → Ascends ks → Apart ks
  apart strict [] a = tt
  apart strict (k ∷ ks) a = ((λ m. strict k (a.0 k m)), apart strict ks a.1)

  member_at : (ks : List K) (i : ℕ) (d : K) → i < length ks → Member (slice_index_or ks i d) ks
  member_at [] i d l = absurd (omega arith)
  member_at (k ∷ ks) zero d l = inl refl
  member_at (k ∷ ks) (suc i) d l = inr (member_at ks i d (omega arith))

  pub pairs : (ks : List K) → Ascends ks → AllPairs (λ a b. c a b ≡ Less) ks
  pairs [] a i j d l m = absurd (omega arith)
  pairs (k ∷ ks) a i zero d l m = absurd (omega arith)
  pairs (k ∷ ks) a zero (suc j) d l m = a.0 _ (member_at ks j d (omega arith))
  pairs (k ∷ ks) a (suc i) (suc j) d l m = pairs ks a.1 i j d (omega arith) (omega arith)

module _ {K : Type 0} (p : K → Bool) where
  pub in_filter : (ks : List K) (q : K) → Member q (filter p ks) → Member q ks × (p q ≡ true)
  in_filter [] q m = absurd m
  in_filter (k ∷ ks) q m = by (in_filter ks q) (p k) refl m
    where
      by : (Member q (filter p ks) → Member q ks × (p q ≡ true)) → (b : Bool) → p k ≡ b
          → Member q (cond b (k ∷ filter p ks) (filter p ks)) → Member q (k ∷ ks) × (p q ≡ true)
      by rest true e (inl i) = (inl i, ap p i ∙ e)
      by rest true e (inr n) = let r = rest n in (inr r.0, r.1)
      by rest false e n = let r = rest n in (inr r.0, r.1)

  pub filter_in : (ks : List K) (q : K) → Member q ks → p q ≡ true → Member q (filter p ks)
  filter_in [] q m h = absurd m
  filter_in (k ∷ ks) q m h = by (λ n. filter_in ks q n h) (p k) refl m
    where
      by : (Member q ks → Member q (filter p ks)) → (b : Bool) → p k ≡ b → Member q (k ∷ ks)
          → Member q (cond b (k ∷ filter p ks) (filter p ks))
      by rest true e (inl i) = inl i
      by rest true e (inr n) = inr (rest n)
      by rest false e (inl i) = absurd (true≢false (sym h ∙ ap p i ∙ e))
      by rest false e (inr n) = rest n

  pub filtered : (c : K → K → Ordering) (ks : List K) → Ascends c ks → Ascends c (filter p ks)
  filtered c [] a = tt
  filtered c (k ∷ ks) a = by (filtered c ks a.1) (p k)
    where
      by : Ascends c (filter p ks) → (b : Bool) → Ascends c (cond b (k ∷ filter p ks) (filter p ks))
      by rest true = ((λ q m. a.0 q (in_filter ks q m).0), rest)
      by rest false = rest

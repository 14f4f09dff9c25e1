-- Maps by their entries.
use Rattle.std.proofs.Common.{◌≡◌, List, [], ◌∷◌, true, false, Option, Some, None, refl, sym, ap, ◌∙◌, inl, inr}
use Rattle.std.specs.Prelude.{◌⊎◌, cond}
use Rattle.std.specs.BTreeMap.{insert_entry, is_at}
use Rattle.std.specs.Cmp.{IsTotalOrder, tied_itself}
use Rattle.std.specs.List.{AllByRecursion}
use Rattle.std.specs.List.Sorted.{IsStrictlySortedBy}
use Rattle.std.specs.Map.{keys_of, lookup}
use Rattle.std.specs.Ordering.{is_eq, match_ordering}
use Rattle.std.specs.declared.cmp.Ordering.{Ordering}
use Rattle.std.specs.declared.cmp.Ordering.TheVariants.{Less, Equal, Greater}
use Rattle.std.proofs.lemmas.Map.Keys.{sorted_head, sorted_tail}
use Rattle.mds_world.specs.Lists.{Member}

module _ {K X : Type 0} (c : K → K → Ordering) (exact : (a b : K) → c a b ≡ Equal → a ≡ b) (total : IsTotalOrder c) where
  pub insert_here : (es : List (K × X)) (k : K) (v : X) → Member (k, v) (insert_entry c es k v)
  insert_here [] k v = inl refl
  insert_here (e ∷ es) k v =
      elim (c k e.0) as (λ r. c k e.0 ≡ r
      → Member (k, v) (match_ordering r ((k, v) ∷ e ∷ es) ((e.0, v) ∷ es) (e ∷ insert_entry c es k v))) [
        | Less ↦ λ _. inl refl
        | Equal ↦ λ q. inl (λ i. (exact k e.0 q i, v))
        | Greater ↦ λ _. inr (insert_here es k v)
      ] refl

  pub insert_only : (es : List (K × X)) (k : K) (v : X) (e : K × X)
      → Member e (insert_entry c es k v) → (e ≡ (k, v)) ⊎ Member e es
  insert_only [] k v e m = elim m [ inl a ↦ inl a | inr z ↦ absurd z ]
  insert_only (x ∷ es) k v e m =
      elim (c k x.0) as (λ r. c k x.0 ≡ r
      → Member e (match_ordering r ((k, v) ∷ x ∷ es) ((x.0, v) ∷ es) (x ∷ insert_entry c es k v))
      → (e ≡ (k, v)) ⊎ Member e (x ∷ es)) [
        | Less ↦ λ _ n. elim n [ inl a ↦ inl a | inr b ↦ inr b ]
        | Equal ↦ λ q n. elim n [
          | inl a ↦ inl (a ∙ (λ i. (sym (exact k x.0 q) i, v)))
          | inr b ↦ inr (inr b)
        ]
        | Greater ↦ λ _ n. elim n [
          | inl a ↦ inr (inl a)
          | inr b ↦ elim (insert_only es k v e b) [ inl a ↦ inl a | inr c ↦ inr (inr c) ]
        ]
      ] refl m

  pub insert_other : (es : List (K × X)) (k : K) (v : X) (e : K × X)
      → Member e es → Member e (insert_entry c es k v) ⊎ (e.0 ≡ k)
  insert_other [] k v e m = absurd m
  insert_other (x ∷ es) k v e m =
      elim (c k x.0) as (λ r. c k x.0 ≡ r
      → Member e (match_ordering r ((k, v) ∷ x ∷ es) ((x.0, v) ∷ es) (x ∷ insert_entry c es k v)) ⊎ (e.0 ≡ k)) [
        | Less ↦ λ _. inl (inr m)
        | Equal ↦ λ q. elim m [
          | inl a ↦ inr (ap (λ y. y.0) a ∙ sym (exact k x.0 q))
          | inr b ↦ inl (inr b)
        ]
        | Greater ↦ λ _. elim m [
          | inl a ↦ inl (inl a)
          | inr b ↦ elim (insert_other es k v e b) [ inl c ↦ inl (inr c) | inr q ↦ inr q ]
        ]
      ] refl

  at_itself : (k : K) (v : X) (x : K × X) → (k, v) ≡ x → is_eq (c k x.0) ≡ true
  at_itself k v x e = ap (λ y. is_eq (c k y.0)) (sym e) ∙ ap is_eq (tied_itself total k)

  -- what has an entry is found
  pub not_absent : (es : List (K × X)) (k : K) (v : X) → Member (k, v) es
      → lookup (is_at (c k)) es ≡ None → ⊥
  not_absent [] k v m n = m
  not_absent (x ∷ es) k v m n =
      elim (is_eq (c k x.0)) as (λ b. is_eq (c k x.0) ≡ b
      → cond b (Some x.1) (lookup (is_at (c k)) es) ≡ None → ⊥) [
        | true ↦ λ _ e. cc
        | false ↦ λ f e. elim m [
          | inl a ↦ let t = at_itself k v x a in cc
          | inr b ↦ not_absent es k v b e
        ]
      ] refl n

  pub found_in : (es : List (K × X)) (k : K) (v : X)
      → lookup (is_at (c k)) es ≡ Some v → Member (k, v) es
  found_in [] k v e = cc
  found_in (x ∷ es) k v e =
      elim (c k x.0) as (λ r. c k x.0 ≡ r
      → cond (is_eq r) (Some x.1) (lookup (is_at (c k)) es) ≡ Some v → Member (k, v) (x ∷ es)) [
        | Less ↦ λ _ f. inr (found_in es k v f)
        | Equal ↦ λ q f. let g : x.1 ≡ v = cc in inl (λ i. (exact k x.0 q i, sym g i))
        | Greater ↦ λ _ f. inr (found_in es k v f)
      ] refl e

  later : (R : K → K → Ordering) (k : K) (es : List (K × X)) (e : K × X)
      → AllByRecursion (λ y. R k y ≡ Less) (keys_of es) → Member e es → R k e.0 ≡ Less
  later R k [] e a m = absurd m
  later R k (x ∷ es) e a (inl q) = ap (λ y. R k y.0) q ∙ a.0
  later R k (x ∷ es) e a (inr m) = later R k es e a.1 m

  -- the first of a list in order is before the others
  pub first_before : (x : K × X) (es : List (K × X)) (e : K × X)
      → IsStrictlySortedBy c (keys_of (x ∷ es)) → Member e es → c x.0 e.0 ≡ Less
  first_before x es e s m = later c x.0 es e (sorted_head c x.0 (keys_of es) s) m

  -- a key has one entry
  pub one_entry : (es : List (K × X)) → IsStrictlySortedBy c (keys_of es) → (k : K) (v w : X)
      → Member (k, v) es → Member (k, w) es → v ≡ w
  one_entry [] s k v w m n = absurd m
  one_entry (x ∷ es) s k v w (inl a) (inl b) = ap (λ y. y.1) (a ∙ sym b)
  one_entry (x ∷ es) s k v w (inl a) (inr b) =
      let l = first_before x es (k, w) s b in
      let r : c k k ≡ Less = ap (λ y. c y.0 k) a ∙ l in
      let t = tied_itself total k in cc
  one_entry (x ∷ es) s k v w (inr a) (inl b) =
      let l = first_before x es (k, v) s a in
      let r : c k k ≡ Less = ap (λ y. c y.0 k) b ∙ l in
      let t = tied_itself total k in cc
  one_entry (x ∷ es) s k v w (inr a) (inr b) = one_entry es (sorted_tail c x.0 (keys_of es) s) k v w a b

  -- and a look-up gives what stands there
  pub gets : (es : List (K × X)) → IsStrictlySortedBy c (keys_of es) → (k : K) (v : X) → Member (k, v) es
      → lookup (is_at (c k)) es ≡ Some v
  gets es s k v m = by (lookup (is_at (c k)) es) refl
    where
      by : (found : Option X) → lookup (is_at (c k)) es ≡ found → found ≡ Some v
      by None e = absurd (not_absent es k v m e)
      by (Some w) e = ap Some (one_entry es s k w v (found_in es k w e) m)

-- Sets by their keys, and lists by their members.
use Rattle.std.specs.Prelude.{◌≡◌, ◌↔◌, ◌⊎◌, ◌<◌, ◌+◌, ℕ, length, slice_index_or, take, Bool, true, false, cond, List, [], ◌∷◌}
use Rattle.std.proofs.Common.{sym, ap, subst, inl, inr, refl, suc, zero, ◌∙◌}
use Rattle.std.proofs.lemmas.List.{take_more}
use mathlib.Core.Bool.{true≢false}
use Rattle.std.specs.BTreeMap.{is_at}
use Rattle.std.specs.BTreeSet.{BTreeSet, IsFromIterResult, contains}
use Rattle.std.specs.Cmp.{Equal-is, IsTotalOrder, tied_itself}
use Rattle.std.specs.FinSet.{IsAntisymmetric}
use Rattle.std.specs.List.{list_any}
use Rattle.std.specs.declared.cmp.Ordering.{Ordering}
use Rattle.mds_world.proofs.Lists.{append_left, append_right, member_append}
use Rattle.mds_world.specs.Lists.{Member}
use Rattle.mds_world.proofs.Sets.{or_left, or_right, split_or}

module _ {K : Type 0} (c : K → K → Ordering) (exact : IsAntisymmetric c) (total : IsTotalOrder c) where
  -- a look-up finds just what is there
  pub is_here : (q k : K) → is_at (c q) k ≡ true → q ≡ k
  is_here q k h = exact q k ((Equal-is (c q k)).0 h)

  pub here_is : (q k : K) → q ≡ k → is_at (c q) k ≡ true
  here_is q k e = subst (λ x. is_at (c q) x ≡ true) e ((Equal-is (c q q)).1 (tied_itself total q))

  pub found : (q : K) (ks : List K) → list_any (is_at (c q)) ks ≡ true → Member q ks
  found q [] h = cc
  found q (k ∷ ks) h = elim (split_or (is_at (c q) k) _ h) [
    | inl a ↦ inl (is_here q k a)
    | inr b ↦ inr (found q ks b)
  ]

  pub finds : (q : K) (ks : List K) → Member q ks → list_any (is_at (c q)) ks ≡ true
  finds q [] m = absurd m
  finds q (k ∷ ks) (inl e) = or_left (is_at (c q) k) _ (here_is q k e)
  finds q (k ∷ ks) (inr m) = or_right (is_at (c q) k) _ (finds q ks m)

  -- the keys after one more is inserted
  pub inserted : (old new : BTreeSet K) (key : K)
      → ((q : K) → contains c new q ≡ cond (is_at (c key) q) true (contains c old q))
      → (q : K) → Member q new.keys ↔ (Member q old.keys ⊎ (q ≡ key))
  inserted old new key h q = (
    (λ m. by (is_at (c key) q) refl (sym (finds q new.keys m) ∙ h q)),
    (λ e. elim e [
      | inl m ↦ found q new.keys (h q ∙ kept (is_at (c key) q) (finds q old.keys m))
      | inr i ↦ found q new.keys (h q ∙ ap (λ b. cond b true (contains c old q)) (here_is key q (sym i)))
    ]),
  )
    where
      kept : (b : Bool) → contains c old q ≡ true → cond b true (contains c old q) ≡ true
      kept true e = refl
      kept false e = e

      by : (b : Bool) → is_at (c key) q ≡ b → true ≡ cond b true (contains c old q) → Member q old.keys ⊎ (q ≡ key)
      by true e t = inr (sym (is_here key q e))
      by false e t = inl (found q old.keys (sym t))

  -- the keys after one is removed
  pub removed : (old new : BTreeSet K) (key : K)
      → ((q : K) → contains c new q ≡ cond (is_at (c key) q) false (contains c old q))
      → (q : K) → Member q new.keys ↔ (Member q old.keys × (q ≡ key → ⊥))
  removed old new key h q = (
    (λ m. by (is_at (c key) q) refl (sym (finds q new.keys m) ∙ h q)),
    (λ p. found q new.keys (h q ∙ other (is_at (c key) q) refl p.1 ∙ finds q old.keys p.0)),
  )
    where
      other : (b : Bool) → is_at (c key) q ≡ b → (q ≡ key → ⊥)
          → cond b false (contains c old q) ≡ contains c old q
      other true e n = absurd (n (sym (is_here key q e)))
      other false e n = refl

      by : (b : Bool) → is_at (c key) q ≡ b → true ≡ cond b false (contains c old q)
          → Member q old.keys × (q ≡ key → ⊥)
      by true e t = cc
      by false e t = (
        found q old.keys (sym t),
        (λ i. absurd (true≢false (sym (here_is key q (sym i)) ∙ e))),
      )

  -- a set that was collected of a list
  pub collected : (xs : List K) (set : BTreeSet K) → IsFromIterResult c xs set → (q : K) → Member q set.keys ↔ Member q xs
  collected xs set r q = (
    (λ m. found q xs (sym (r.0 q) ∙ finds q set.keys m)),
    (λ m. found q set.keys (r.0 q ∙ finds q xs m)),
  )

-- one more of a list
pub taken_more : {K : Type 0} (xs : List K) (i : ℕ) (x : K) → i < length xs → x ≡ slice_index_or xs i x → (q : K)
    → Member q (take (i + 1) xs) ↔ (Member q (take i xs) ⊎ (q ≡ x))
taken_more xs i x l is q = (
  (λ m. elim (member_append q (take i xs) _ (subst (Member q) (take_more xs i x l) m)) [
    | inl n ↦ inl n
    | inr n ↦ elim n [ inl e ↦ inr (e ∙ sym is) | inr z ↦ absurd z ]
  ]),
  (λ e. subst (Member q) (sym (take_more xs i x l)) (elim e [
    | inl n ↦ append_left q (take i xs) _ n
    | inr n ↦ append_right q (take i xs) _ (inl (n ∙ is))
  ])),
)

pub in_take : {K : Type 0} (i : ℕ) (xs : List K) (q : K) → Member q (take i xs) → Member q xs
in_take zero xs q m = absurd m
in_take (suc i) [] q m = absurd m
in_take (suc i) (x ∷ xs) q (inl e) = inl e
in_take (suc i) (x ∷ xs) q (inr m) = inr (in_take i xs q m)

-- what is there without the first of a list
abbrev pub AreWithout : {K : Type 0} → List K → List K → List K → Type 0
AreWithout {K} new old out = (q : K) → Member q new ↔ (Member q old × (Member q out → ⊥))

-- what is there with the first of a list
abbrev pub AreWith : {K : Type 0} → List K → List K → List K → Type 0
AreWith {K} new old more = (q : K) → Member q new ↔ (Member q old ⊎ Member q more)

pub out_more : {K : Type 0} (old mid new : List K) (xs : List K) (i : ℕ) (x : K) → i < length xs
    → x ≡ slice_index_or xs i x → AreWithout mid old (take i xs)
    → ((q : K) → Member q new ↔ (Member q mid × (q ≡ x → ⊥))) → AreWithout new old (take (i + 1) xs)
out_more old mid new xs i x l is before h q =
    let t = taken_more xs i x l is q in (
      (λ m.
          let p = (h q).0 m in
          let b = (before q).0 p.0 in
          (b.0, (λ n. elim (t.0 n) [ inl k ↦ b.1 k | inr e ↦ p.1 e ]))),
      (λ p. (h q).1 ((before q).1 (p.0, (λ n. p.1 (t.1 (inl n)))), (λ e. p.1 (t.1 (inr e))))),
    )

pub in_more : {K : Type 0} (old mid new : List K) (xs : List K) (i : ℕ) (x : K) → i < length xs
    → x ≡ slice_index_or xs i x → AreWith mid old (take i xs) → ((q : K) → Member q new ↔ (Member q mid ⊎ (q ≡ x)))
    → AreWith new old (take (i + 1) xs)
in_more old mid new xs i x l is before h q =
    let t = taken_more xs i x l is q in (
      (λ m. elim ((h q).0 m) [
        | inl n ↦ elim ((before q).0 n) [ inl k ↦ inl k | inr k ↦ inr (t.1 (inl k)) ]
        | inr e ↦ inr (t.1 (inr e))
      ]),
      (λ p. elim p [
        | inl n ↦ (h q).1 (inl ((before q).1 (inl n)))
        | inr n ↦ elim (t.0 n) [ inl k ↦ (h q).1 (inl ((before q).1 (inr k))) | inr e ↦ (h q).1 (inr e) ]
      ]),
    )

-- what was put in and taken out again
pub as_before : {K : Type 0} (old mid new : List K) (out : List K) → AreWith mid old out → AreWithout new mid out
    → ((q : K) → Member q out → Member q old → ⊥) → (q : K) → Member q new ↔ Member q old
as_before old mid new out with without apart q = (
  (λ m.
      let p = (without q).0 m in
      elim ((with q).0 p.0) [ inl n ↦ n | inr n ↦ absurd (p.1 n) ]),
  (λ m. (without q).1 ((with q).1 (inl m), (λ n. apart q n m))),
)

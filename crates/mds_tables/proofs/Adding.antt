-- Sets to which rows add.
use Rattle.std.specs.Prelude.{◌≡◌, ◌↔◌, ◌⊎◌, ◌<◌, ◌≤◌, ◌+◌, ℕ, length, slice_index_or, take, Bool, true, false, cond, List, [], ◌∷◌, ◌++◌}
use Rattle.std.proofs.Common.{sym, ap, subst, inl, inr, refl, suc, zero, arith, ◌∙◌}
use Rattle.std.proofs.lemmas.List.{take_more, take_all}
use Rattle.std.specs.BTreeMap.{is_at}
use Rattle.std.specs.BTreeSet.{BTreeSet, contains}
use Rattle.std.specs.Cmp.{IsTotalOrder, Equal-is, tied_itself}
use Rattle.std.specs.FinSet.{IsAntisymmetric}
use Rattle.std.specs.List.{AllByRecursion, AllPairs, list_any}
use Rattle.std.specs.List.Sorted.{IsStrictlySortedBy}
use Rattle.std.specs.declared.cmp.Ordering.{Ordering}
use Rattle.std.specs.declared.cmp.Ordering.TheVariants.{Less, Equal}
use Rattle.sqlite_value.specs.Order.{Row}
use Rattle.mds_terms.specs.Event.{EventValue}
use Rattle.mds_world.specs.Facts.Fact.{EventIs}
use Rattle.mds_world.proofs.Lists.{append_left, append_right, member_append}
use Rattle.mds_world.specs.Lists.{Apart, Member}
use Rattle.mds_world.proofs.Sets.{or_left, or_right, split_or}
use Rattle.mds_tables.specs.Added.{AreAdded, IsAdded, SaysEvent}

-- what stands at a place of a list is one of it
pub member_at : {K : Type 0} (ks : List K) (i : ℕ) (d : K) → i < length ks → Member (slice_index_or ks i d) ks
member_at [] i d l = absurd (omega arith)
member_at (k ∷ ks) zero d l = inl refl
member_at (k ∷ ks) (suc i) d l = inr (member_at ks i d (omega arith))

module _ {K : Type 0} (c : K → K → Ordering) where
  -- each stands before those after it
  abbrev Ascends : List K → Type 0
  Ascends [] = Unit {0}
  Ascends (k ∷ ks) = ((q : K) → Member q ks → c k q ≡ Less) × Ascends ks

  of_all : (k : K) (ks : List K) → AllByRecursion (λ y. c k y ≡ Less) ks → (q : K) → Member q ks → c k q ≡ Less
  of_all k [] a q m = absurd m
  of_all k (x ∷ ks) a q (inl e) = subst (λ y. c k y ≡ Less) (sym e) a.0
  of_all k (x ∷ ks) a q (inr m) = of_all k ks a.1 q m

  from_sorted : (ks : List K) → IsStrictlySortedBy c ks → Ascends ks
  unfolding IsStrictlySortedBy
  from_sorted [] s = tt
  from_sorted (k ∷ ks) s = (of_all k ks s.0, from_sorted ks s.1)

  apart : ((k : K) → c k k ≡ Less → ⊥) → (ks : List K) → Ascends ks → Apart ks
  apart strict [] a = tt
  apart strict (k ∷ ks) a = ((λ m. strict k (a.0 k m)), apart strict ks a.1)

  pairs : (ks : List K) → Ascends ks → AllPairs (λ a b. c a b ≡ Less) ks
  pairs [] a i j d l m = absurd (omega arith)
  pairs (k ∷ ks) a i zero d l m = absurd (omega arith)
  pairs (k ∷ ks) a zero (suc j) d l m = a.0 _ (member_at ks j d (omega arith))
  pairs (k ∷ ks) a (suc i) (suc j) d l m = pairs ks a.1 i j d (omega arith) (omega arith)

module _ {K : Type 0} {R : K → K → Ordering} (o : IsTotalOrder R) where
  -- the keys of a set come in order, and once each
  pub ascends : (ks : List K) → IsStrictlySortedBy R ks → AllPairs (λ a b. R a b ≡ Less) ks
  ascends ks s = pairs R ks (from_sorted R ks s)

  strict : (k : K) → R k k ≡ Less → ⊥
  strict k l = let same : R k k ≡ Equal = tied_itself o k in cc

  pub once : (ks : List K) → IsStrictlySortedBy R ks → Apart ks
  once ks s = apart R strict ks (from_sorted R ks s)

module _ {K : Type 0} {R : K → K → Ordering} (o : IsTotalOrder R) (e : IsAntisymmetric R) where
  is_here : (q k : K) → is_at (R q) k ≡ true → q ≡ k
  is_here q k h = e q k ((Equal-is (R q k)).0 h)

  here_is : (q k : K) → q ≡ k → is_at (R q) k ≡ true
  here_is q k i = subst (λ x. is_at (R q) x ≡ true) i ((Equal-is (R q q)).1 (tied_itself o q))

  found : (q : K) (ks : List K) → list_any (is_at (R q)) ks ≡ true → Member q ks
  found q [] h = cc
  found q (k ∷ ks) h = elim (split_or (is_at (R q) k) _ h) [
    | inl a ↦ inl (is_here q k a)
    | inr b ↦ inr (found q ks b)
  ]

  finds : (q : K) (ks : List K) → Member q ks → list_any (is_at (R q)) ks ≡ true
  finds q [] m = absurd m
  finds q (k ∷ ks) (inl i) = or_left (is_at (R q) k) _ (here_is q k i)
  finds q (k ∷ ks) (inr m) = or_right (is_at (R q) k) _ (finds q ks m)

  kept : (x q : K) (old : BTreeSet K) (b : Bool) → contains R old q ≡ true → cond b true (contains R old q) ≡ true
  kept x q old true h = refl
  kept x q old false h = h

  split : (x q : K) (old : BTreeSet K) (b : Bool) → is_at (R x) q ≡ b → true ≡ cond b true (contains R old q)
      → Member q old.keys ⊎ (q ≡ x)
  split x q old true i t = inr (sym (is_here x q i))
  split x q old false i t = inl (found q old.keys (sym t))

  -- the keys after one more is inserted
  pub inserted : (old new : BTreeSet K) (x : K)
      → ((q : K) → contains R new q ≡ cond (is_at (R x) q) true (contains R old q))
      → (q : K) → Member q new.keys ↔ (Member q old.keys ⊎ (q ≡ x))
  inserted old new x h q = (
    (λ m. split x q old (is_at (R x) q) refl (sym (finds q new.keys m) ∙ h q)),
    (λ p. elim p [
      | inl m ↦ found q new.keys (h q ∙ kept x q old (is_at (R x) q) (finds q old.keys m))
      | inr i ↦ found q new.keys (h q ∙ ap (λ b. cond b true (contains R old q)) (here_is x q (sym i)))
    ]),
  )

-- a row says one event
pub one_event : (row : Row) (a b : EventValue) → SaysEvent row a → SaysEvent row b → a ≡ b
one_event row a b p q = let same : EventIs a ≡ EventIs b = sym p ∙ q in cc

module _ {K : Type 0} (Says : Row → K → Type 0) where
  -- a row that says just this one
  pub adds_one : (old new : List K) (row : Row) (x : K) → ((q : K) → Member q new ↔ (Member q old ⊎ (q ≡ x)))
      → Says row x → ((q : K) → Says row q → q ≡ x) → IsAdded Says old row new
  adds_one old new row x h says only q = (
    (λ m. elim ((h q).0 m) [ inl n ↦ inl n | inr i ↦ inr (subst (Says row) (sym i) says) ]),
    (λ p. elim p [ inl n ↦ (h q).1 (inl n) | inr s ↦ (h q).1 (inr (only q s)) ]),
  )

  pub adds_none : (ks : List K) → AreAdded Says ks [] ks
  adds_none ks q = ((λ m. inl m), (λ p. elim p [ inl m ↦ m | inr r ↦ absurd r.1 ]))

  adds_push : (old mid new : List K) (rows : List Row) (row : Row) → AreAdded Says old rows mid
      → IsAdded Says mid row new → AreAdded Says old (rows ++ row ∷ []) new
  adds_push old mid new rows row before h q = (
    (λ m. elim ((h q).0 m) [
      | inl n ↦ elim ((before q).0 n) [
        | inl k ↦ inl k
        | inr r ↦ inr (r.0, append_left r.0 rows (row ∷ []) r.1, r.2)
      ]
      | inr s ↦ inr (row, append_right row rows (row ∷ []) (inl refl), s)
    ]),
    (λ p. elim p [
      | inl n ↦ (h q).1 (inl ((before q).1 (inl n)))
      | inr r ↦ elim (member_append r.0 rows (row ∷ []) r.1) [
        | inl m ↦ (h q).1 (inl ((before q).1 (inr (r.0, m, r.2))))
        | inr m ↦ elim m [ inl i ↦ (h q).1 (inr (subst (λ x. Says x q) i r.2)) | inr z ↦ absurd z ]
      ]
    ]),
  )

  -- one row more
  pub adds_more : (old mid new : List K) (rows : List Row) (i : ℕ) (row : Row) → i < length rows
      → row ≡ slice_index_or rows i row → AreAdded Says old (take i rows) mid
      → IsAdded Says mid row new → AreAdded Says old (take (i + 1) rows) new
  adds_more old mid new rows i row l is before h =
      subst (λ rs. AreAdded Says old rs new)
      (sym (take_more rows i row l ∙ ap (λ x. take i rows ++ x ∷ []) (sym is)))
      (adds_push old mid new (take i rows) row before h)

  -- all of them
  pub adds_all : (old new : List K) (rows : List Row) (i : ℕ) → length rows ≤ i → AreAdded Says old (take i rows) new
      → AreAdded Says old rows new
  adds_all old new rows i l a = subst (λ rs. AreAdded Says old rs new) (take_all i rows l) a

  -- one of the rows says it
  abbrev pub IsSaid : List Row → K → Type 0
  IsSaid rows q = (row : Row) × Member row rows × Says row q

  -- all that is in a set that was empty
  pub just : (old new : List K) (rows : List Row) → old ≡ [] → AreAdded Says old rows new
      → (q : K) → Member q new ↔ IsSaid rows q
  just old new rows none add q = (
    (λ m. elim ((add q).0 m) [ inl k ↦ absurd (subst (Member q) none k) | inr r ↦ r ]),
    (λ r. (add q).1 (inr r)),
  )

  -- of two lists of rows, one after the other
  pub just_two : (empty one two : List K) (rows more : List Row) → empty ≡ [] → AreAdded Says empty rows one
      → AreAdded Says one more two → (q : K) → Member q two ↔ (IsSaid rows q ⊎ IsSaid more q)
  just_two empty one two rows more none a b q = (
    (λ m. elim ((b q).0 m) [
      | inl k ↦ inl ((just empty one rows none a q).0 k)
      | inr r ↦ inr r
    ]),
    (λ p. elim p [
      | inl r ↦ (b q).1 (inl ((just empty one rows none a q).1 r))
      | inr r ↦ (b q).1 (inr r)
    ]),
  )

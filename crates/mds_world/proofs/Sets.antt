-- Finite sets by their members, in any total order whose ties are equal.
use Rattle.std.specs.Prelude.{◌≡◌, ◌≢◌, ◌⊎◌, ℕ, ◌+◌, List, [], ◌∷◌, ◌++◌, length, Bool, true, false, cond, not, ◌&&◌, ◌||◌, refl}
use Rattle.std.proofs.Common.{sym, ap, ◌∙◌, subst, inl, inr, arith}
use Rattle.std.specs.declared.cmp.Ordering.{Ordering}
use Rattle.std.specs.Ordering.{eq_by_cmp, is_eq}
use Rattle.std.specs.Cmp.{IsTotalOrder, tied_itself, Equal-is}
use Rattle.std.specs.FinSet as set
use Rattle.std.specs.FinSet.{FinSet, IsAntisymmetric}
use Rattle.mds_world.specs.Lists.{Apart, Member}
use Rattle.mds_world.specs.Sets.{◌∈◌}

pub split_or : (a b : Bool) → (a || b) ≡ true → (a ≡ true) ⊎ (b ≡ true)
split_or true b e = inl refl
split_or false b e = inr e

pub or_left : (a b : Bool) → a ≡ true → (a || b) ≡ true
or_left true b e = refl
or_left false b e = cc

pub or_right : (a b : Bool) → b ≡ true → (a || b) ≡ true
or_right true b e = refl
or_right false b e = e

pub split_and : (a b : Bool) → (a && b) ≡ true → (a ≡ true) × (b ≡ true)
split_and true b e = (refl, e)
split_and false b e = cc

pub both_and : (a b : Bool) → a ≡ true → b ≡ true → (a && b) ≡ true
both_and true b e f = f
both_and false b e f = cc

pub not_true : (a : Bool) → not a ≡ true → a ≢ true
not_true true e = λ _. cc
not_true false e = λ f. cc

pub true_not : (a : Bool) → a ≢ true → not a ≡ true
true_not true h = absurd (h refl)
true_not false h = refl

pub same_bool : (a b : Bool) → (a ≡ true → b ≡ true) → (b ≡ true → a ≡ true) → a ≡ b
same_bool true b f g = sym (f refl)
same_bool false true f g = g refl
same_bool false false f g = refl

pub decided : (b : Bool) → (b ≡ true) ⊎ (b ≢ true)
decided true = inl refl
decided false = inr (λ e. cc)

module _ {K : Type 0} {R : K → K → Ordering} (o : IsTotalOrder R) (e : IsAntisymmetric R) where
  tied_is : (x y : K) → eq_by_cmp R x y ≡ true → x ≡ y
  tied_is x y h = e x y ((Equal-is (R x y)).0 h)

  is_tied : (x y : K) → x ≡ y → eq_by_cmp R x y ≡ true
  is_tied x y h = subst (λ z. eq_by_cmp R x z ≡ true) h (ap is_eq (tied_itself o x))

  pub same_by : (s t : FinSet R) → ((q : K) → q ∈ s → q ∈ t) → ((q : K) → q ∈ t → q ∈ s) → s ≡ t
  same_by s t f g = set.same_set o e s t (λ q. same_bool _ _ (f q) (g q))

  pub not_in_empty : (q : K) → q ∈ set.empty {R = R} → ⊥
  not_in_empty q h = let n = set.contains-empty R q in cc

  pub in_union : (s t : FinSet R) (q : K) → q ∈ set.union s t → (q ∈ s) ⊎ (q ∈ t)
  in_union s t q h = split_or _ _ (sym (set.contains-union o s t q) ∙ h)

  pub union_left : (s t : FinSet R) (q : K) → q ∈ s → q ∈ set.union s t
  union_left s t q h = set.contains-union o s t q ∙ or_left _ _ h

  pub union_right : (s t : FinSet R) (q : K) → q ∈ t → q ∈ set.union s t
  union_right s t q h = set.contains-union o s t q ∙ or_right _ _ h

  pub in_insert : (s : FinSet R) (k q : K) → q ∈ set.insert s k → (q ≡ k) ⊎ (q ∈ s)
  in_insert s k q h = elim (split_or _ _ (sym (set.contains-insert o s k q) ∙ h)) [
    | inl a ↦ inl (tied_is q k a)
    | inr b ↦ inr b
  ]

  pub insert_here : (s : FinSet R) (k q : K) → q ≡ k → q ∈ set.insert s k
  insert_here s k q h = set.contains-insert o s k q ∙ or_left _ _ (is_tied q k h)

  pub insert_other : (s : FinSet R) (k q : K) → q ∈ s → q ∈ set.insert s k
  insert_other s k q h = set.contains-insert o s k q ∙ or_right _ _ h

  pub in_retain : (s : FinSet R) (p : K → Bool) (q : K) → q ∈ set.retain s p → (q ∈ s) × (p q ≡ true)
  in_retain s p q h = split_and _ _ (sym (set.contains-retain s p q (λ x t. ap p (sym (e q x t)))) ∙ h)

  pub retain_in : (s : FinSet R) (p : K → Bool) (q : K) → q ∈ s → p q ≡ true → q ∈ set.retain s p
  retain_in s p q h k = set.contains-retain s p q (λ x t. ap p (sym (e q x t))) ∙ both_and _ _ h k

  pub in_difference : (s t : FinSet R) (q : K) → q ∈ set.difference s t → (q ∈ s) × (set.contains t q ≢ true)
  in_difference s t q h = let p = split_and _ _ (sym (set.contains-difference o s t q) ∙ h) in (p.0, not_true _ p.1)

  pub difference_in : (s t : FinSet R) (q : K) → q ∈ s → set.contains t q ≢ true → q ∈ set.difference s t
  difference_in s t q h k = set.contains-difference o s t q ∙ both_and _ _ h (true_not _ k)

  -- what a test leaves of a union
  pub retain_union : (s t : FinSet R) (p : K → Bool)
      → set.retain (set.union s t) p ≡ set.union (set.retain s p) (set.retain t p)
  retain_union s t p = same_by _ _
      (λ q h. let r = in_retain _ p q h in elim (in_union s t q r.0) [
        | inl a ↦ union_left _ _ q (retain_in s p q a r.1)
        | inr b ↦ union_right _ _ q (retain_in t p q b r.1)
      ])
      (λ q h. elim (in_union _ _ q h) [
        | inl a ↦ let r = in_retain s p q a in retain_in _ p q (union_left s t q r.0) r.1
        | inr b ↦ let r = in_retain t p q b in retain_in _ p q (union_right s t q r.0) r.1
      ])

  -- nothing of a set is outside one that has all of it
  pub difference_none : (s t : FinSet R) → ((q : K) → q ∈ s → q ∈ t) → set.difference s t ≡ set.empty
  difference_none s t h = same_by _ _
      (λ q a. let p = in_difference s t q a in absurd (p.1 (h q p.0)))
      (λ q a. absurd (not_in_empty q a))

  -- a union doesn't depend on the order of its parts
  pub union_comm : (s t : FinSet R) → set.union s t ≡ set.union t s
  union_comm s t = same_by _ _
      (λ q h. elim (in_union s t q h) [ inl a ↦ union_right t s q a | inr b ↦ union_left t s q b ])
      (λ q h. elim (in_union t s q h) [ inl a ↦ union_right s t q a | inr b ↦ union_left s t q b ])

  pub union_assoc : (s t u : FinSet R) → set.union (set.union s t) u ≡ set.union s (set.union t u)
  union_assoc s t u = same_by _ _
      (λ q h. elim (in_union (set.union s t) u q h) [
        | inl a ↦ elim (in_union s t q a) [
          | inl b ↦ union_left s _ q b
          | inr b ↦ union_right s _ q (union_left t u q b)
        ]
        | inr a ↦ union_right s _ q (union_right t u q a)
      ])
      (λ q h. elim (in_union s (set.union t u) q h) [
        | inl a ↦ union_left _ u q (union_left s t q a)
        | inr a ↦ elim (in_union t u q a) [
          | inl b ↦ union_left _ u q (union_right s t q b)
          | inr b ↦ union_right _ u q b
        ]
      ])

  pub union_absorbs : (s t : FinSet R) → ((q : K) → q ∈ t → q ∈ s) → set.union s t ≡ s
  union_absorbs s t h = same_by _ _
      (λ q a. elim (in_union s t q a) [ inl b ↦ b | inr b ↦ h q b ])
      (λ q a. union_left s t q a)

  pub union_empty : (s : FinSet R) → set.union s set.empty ≡ s
  union_empty s = union_absorbs s set.empty (λ q h. absurd (not_in_empty q h))

  -- the set of a longer list
  pub list_append : (xs ys : List K)
      → set.from_list {R = R} (xs ++ ys) ≡ set.union (set.from_list xs) (set.from_list ys)
  list_append [] ys = sym (union_comm (set.empty {R = R}) (set.from_list ys) ∙ union_empty (set.from_list ys))
  list_append (x ∷ xs) ys = ap (λ s. set.insert s x) (list_append xs ys) ∙ same_by _ _
      (λ q h. elim (in_insert _ x q h) [
        | inl a ↦ union_left _ _ q (insert_here _ x q a)
        | inr a ↦ elim (in_union _ _ q a) [
          | inl b ↦ union_left _ _ q (insert_other _ x q b)
          | inr b ↦ union_right _ _ q b
        ]
      ])
      (λ q h. elim (in_union _ _ q h) [
        | inl a ↦ elim (in_insert _ x q a) [
          | inl b ↦ insert_here _ x q b
          | inr b ↦ insert_other _ x q (union_left _ _ q b)
        ]
        | inr a ↦ insert_other _ x q (union_right _ _ q a)
      ])

  -- how many members a union has
  more_len : (b : Bool) (n m : ℕ) → cond b (n + m) ((n + m) + 1) ≡ n + cond b m (m + 1)
  more_len true n m = refl
  more_len false n m = omega arith

  len_union_list : (s : FinSet R) (ks : List K)
      → set.len (set.union s (set.from_list ks)) ≡ set.len s + set.len (set.difference (set.from_list ks) s)
  len_union_list s [] =
      let none : set.difference (set.empty {R = R}) s ≡ set.empty =
      difference_none set.empty s (λ q h. absurd (not_in_empty q h)) in
      ap set.len (union_empty s) ∙ omega (arith, ap set.len none ∙ set.len-empty R)
  len_union_list s (k ∷ ks) =
      let t = set.from_list {R = R} ks in
      let whole : set.union s (set.insert t k) ≡ set.insert (set.union s t) k = same_by _ _
      (λ q h. elim (in_union s _ q h) [
        | inl a ↦ insert_other _ k q (union_left s t q a)
        | inr a ↦ elim (in_insert t k q a) [
          | inl b ↦ insert_here _ k q b
          | inr b ↦ insert_other _ k q (union_right s t q b)
        ]
      ])
      (λ q h. elim (in_insert _ k q h) [
        | inl a ↦ union_right s _ q (insert_here t k q a)
        | inr a ↦ elim (in_union s t q a) [
          | inl b ↦ union_left s _ q b
          | inr b ↦ union_right s _ q (insert_other t k q b)
        ]
      ]) in
      elim (decided (set.contains s k)) [
        | inl here ↦
            let rest : set.difference (set.insert t k) s ≡ set.difference t s = same_by _ _
            (λ q h. let p = in_difference _ s q h in elim (in_insert t k q p.0) [
              | inl a ↦ absurd (p.1 (ap (set.contains s) a ∙ here))
              | inr a ↦ difference_in t s q a p.1
            ])
            (λ q h. let p = in_difference t s q h in difference_in _ s q (insert_other t k q p.0) p.1) in
            ap set.len whole ∙ set.len-insert o (set.union s t) k
            ∙ ap (λ b. cond b (set.len (set.union s t)) (set.len (set.union s t) + 1)) (union_left s t k here)
            ∙ len_union_list s ks ∙ ap (λ d. set.len s + set.len d) (sym rest)
        | inr absent ↦
            let rest : set.difference (set.insert t k) s ≡ set.insert (set.difference t s) k = same_by _ _
            (λ q h. let p = in_difference _ s q h in elim (in_insert t k q p.0) [
              | inl a ↦ insert_here _ k q a
              | inr a ↦ insert_other _ k q (difference_in t s q a p.1)
            ])
            (λ q h. elim (in_insert _ k q h) [
              | inl a ↦ difference_in _ s q (insert_here t k q a) (λ b. absent (ap (set.contains s) (sym a) ∙ b))
              | inr a ↦ let p = in_difference t s q a in difference_in _ s q (insert_other t k q p.0) p.1
            ]) in
            let tests : set.contains (set.union s t) k ≡ set.contains (set.difference t s) k = same_bool _ _
            (λ h. elim (in_union s t k h) [ inl a ↦ absurd (absent a) | inr a ↦ difference_in t s k a absent ])
            (λ h. union_right s t k (in_difference t s k h).0) in
            ap set.len whole ∙ set.len-insert o (set.union s t) k
            ∙ (λ i. cond (tests i) (len_union_list s ks i) (len_union_list s ks i + 1))
            ∙ more_len (set.contains (set.difference t s) k) (set.len s) (set.len (set.difference t s))
            ∙ ap (λ n. set.len s + n) (sym (set.len-insert o (set.difference t s) k))
            ∙ ap (λ d. set.len s + set.len d) (sym rest)
      ]

  list_of : (t : FinSet R) → set.from_list (set.items t) ≡ t
  list_of t = set.same_set o e _ t (λ q. set.contains-from_list o (set.items t) q ∙ sym (set.contains-items t q))

  pub len_union : (s t : FinSet R) → set.len (set.union s t) ≡ set.len s + set.len (set.difference t s)
  len_union s t =
      subst (λ u. set.len (set.union s u) ≡ set.len s + set.len (set.difference u s)) (list_of t)
      (len_union_list s (set.items t))

  pub in_intersection : (s t : FinSet R) (q : K) → q ∈ set.intersection s t → (q ∈ s) × (q ∈ t)
  in_intersection s t q h = split_and _ _ (sym (set.contains-intersection o s t q) ∙ h)

  pub intersection_in : (s t : FinSet R) (q : K) → q ∈ s → q ∈ t → q ∈ set.intersection s t
  intersection_in s t q h k = set.contains-intersection o s t q ∙ both_and _ _ h k

  -- each member of a set is a member of another, or isn't
  pub len_parts : (s t : FinSet R) → set.len s ≡ set.len (set.intersection s t) + set.len (set.difference s t)
  len_parts s t =
      let both : FinSet R = set.intersection s t in
      let rest : FinSet R = set.difference s t in
      let whole : set.union both rest ≡ s = same_by _ _
      (λ q h. elim (in_union both rest q h) [
        | inl a ↦ (in_intersection s t q a).0
        | inr b ↦ (in_difference s t q b).0
      ])
      (λ q h. elim (decided (set.contains t q)) [
        | inl a ↦ union_left both rest q (intersection_in s t q h a)
        | inr b ↦ union_right both rest q (difference_in s t q h b)
      ]) in
      let apart : set.difference rest both ≡ rest = same_by _ _
      (λ q h. (in_difference rest both q h).0)
      (λ q h. difference_in rest both q h (λ a. (in_difference s t q h).1 (in_intersection s t q a).1)) in
      ap set.len (sym whole) ∙ len_union both rest ∙ ap (λ d. set.len both + set.len d) apart

  pub in_list : (ks : List K) (q : K) → q ∈ set.from_list {R = R} ks → Member q ks
  in_list [] q h = not_in_empty q h
  in_list (k ∷ ks) q h = elim (in_insert (set.from_list ks) k q h) [ inl a ↦ inl a | inr b ↦ inr (in_list ks q b) ]

  pub list_in : (ks : List K) (q : K) → Member q ks → q ∈ set.from_list {R = R} ks
  list_in [] q h = absurd h
  list_in (k ∷ ks) q (inl a) = insert_here (set.from_list ks) k q a
  list_in (k ∷ ks) q (inr b) = insert_other (set.from_list ks) k q (list_in ks q b)

  -- a list without repeats has as many members as it is long
  pub len_list : (ks : List K) → Apart ks → set.len (set.from_list {R = R} ks) ≡ length ks
  len_list [] h = set.len-empty R
  len_list (k ∷ ks) h = elim (decided (set.contains (set.from_list {R = R} ks) k)) [
    | inl here ↦ absurd (h.0 (in_list ks k here))
    | inr absent ↦
        let none : set.contains (set.from_list {R = R} ks) k ≡ false =
        same_bool _ _ (λ x. absurd (absent x)) (λ x. cc) in
        set.len-insert o (set.from_list ks) k
        ∙ ap (λ b. cond b (set.len (set.from_list {R = R} ks)) (set.len (set.from_list {R = R} ks) + 1)) none
        ∙ omega (arith, len_list ks h.1)
  ]

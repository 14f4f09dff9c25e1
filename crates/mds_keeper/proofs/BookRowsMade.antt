-- Rows of a day's book put in order, and judged.
use Rattle.std.specs.Prelude.{◌≡◌, ◌≢◌, ◌⊎◌, ◌+◌, ◌<◌, ◌≤◌, ℕ, Bool, true, false, List, [], ◌∷◌, length}
use Rattle.std.specs.Bool.{MatchBool}
use Rattle.std.specs.List.{AllPairs, IsAllAdjacentAnswer}
use Rattle.std.specs.Cmp.{IsStrictWeakOrder, IsTotalOrder, nat_cmp_total, on_total, then_total}
use Rattle.std.specs.List.Retain.{DedupsFrom, IsDeduped}
use Rattle.std.specs.List.Sorted.{IsPermutation, IsSortedBy}
use Rattle.std.specs.Ordering.{is_lt, nat_cmp, ordering_then}
use Rattle.std.proofs.Common.{sym, ap, ◌∙◌, subst, inl, inr, arith, zero, suc, get_or, ltb}
use Rattle.std.proofs.lemmas.List.Sorted.{Contains-permutation, IsPermutation-sym, ranks_by}
use Rattle.std.proofs.lemmas.Bool.{cases_lt}
use Rattle.std.proofs.lemmas.Bool.Decides.{eqb_tells, leb_tells}
use Rattle.mds_world.specs.Lists.{Member}
use Rattle.mds_keeper.specs.BookRows.{IsBefore, OneEach}
use Rattle.mds_keeper.specs.BookOrder.{HasStep, IsInOrder, SameMembers, TwoReadings, comes_before, row_cmp}
use Rattle.mds_keeper.proofs.BookPlaces.{member_at, no_row, place_of}
use Rattle.mds_keeper.specs.declared.day_book.Version.{Version}

pub lt_tells : (a b : ℕ) → ((ltb a b ≡ true) × (a < b)) ⊎ ((ltb a b ≡ false) × (b ≤ a))
lt_tells a b = elim (leb_tells (suc a) b) [
  | inl p ↦ inl (p.0, p.1)
  | inr p ↦ let h = p.1 in inr (p.0, omega arith)
]

less_pair : (m n u v : ℕ) → is_lt (ordering_then (nat_cmp m n) (nat_cmp u v)) ≡ true → (m < n) ⊎ ((m ≡ n) × (u < v))
less_pair m n u v h = elim (lt_tells m n) [
  | inl p ↦ inl p.1
  | inr p ↦ elim (eqb_tells m n) [
    | inl q ↦ elim (lt_tells u v) [
      | inl r ↦ inr (q.1, r.1)
      | inr r ↦ elim (eqb_tells u v) [ inl s ↦ absurd (cc (p.0, q.0, r.0, s.0)) | inr s ↦ absurd (cc (p.0, q.0, r.0, s.0)) ]
    ]
    | inr q ↦ absurd (cc (p.0, q.0))
  ]
]

tied_pair : (m n u v : ℕ) → is_lt (ordering_then (nat_cmp m n) (nat_cmp u v)) ≡ false
    → is_lt (ordering_then (nat_cmp n m) (nat_cmp v u)) ≡ false → (m ≡ n) × (u ≡ v)
tied_pair m n u v h k = elim (lt_tells m n) [
  | inl p ↦ absurd (cc p.0)
  | inr p ↦ elim (lt_tells n m) [
    | inl q ↦ absurd (cc q.0)
    | inr q ↦
        let same : m ≡ n = let a = p.1 in let b = q.1 in omega arith in
        elim (lt_tells u v) [
          | inl r ↦ absurd (first m n u v same r.0 h)
          | inr r ↦ elim (lt_tells v u) [
            | inl s ↦ absurd (first n m v u (sym same) s.0 k)
            | inr s ↦ (same, let a = r.1 in let b = s.1 in omega arith)
          ]
        ]
  ]
]
  where
    first : (m n u v : ℕ) → m ≡ n → ltb u v ≡ true → is_lt (ordering_then (nat_cmp m n) (nat_cmp u v)) ≡ false → ⊥
    first m n u v e r h = elim (lt_tells m n) [
      | inl p ↦ let a = p.1 in absurd (omega arith)
      | inr p ↦ elim (eqb_tells m n) [
        | inl q ↦ absurd (cc (p.0, q.0, r))
        | inr q ↦ absurd (q.1 e)
      ]
    ]

-- neighbours in order make all pairs so
all_before : (rows : List (ℕ × Version))
    → ((k : ℕ) (d : ℕ × Version) → k + 1 < length rows → IsBefore (get_or rows k d) (get_or rows (k + 1) d))
    → AllPairs IsBefore rows
all_before rows up i zero d h k = absurd (omega arith)
all_before rows up i (suc j) d h k =
    let next : j + 1 ≡ suc j = omega arith in
    let step : IsBefore (get_or rows j d) (get_or rows (suc j) d) =
    subst (λ n. IsBefore (get_or rows j d) (get_or rows n d)) next (up j d (omega arith)) in
    elim (cases_lt i j) [
      | inl less ↦ chain (get_or rows i d) (get_or rows j d) (get_or rows (suc j) d) (all_before rows up i j d less (omega arith)) step
      | inr more ↦
          let same : j ≡ i = omega arith in
          subst (λ n. IsBefore (get_or rows n d) (get_or rows (suc j) d)) same step
    ]
  where
    chain : (a b c : ℕ × Version) → IsBefore a b → IsBefore b c → IsBefore a c
    chain a b c (inl p) (inl q) = inl (omega arith)
    chain a b c (inl p) (inr q) = inl (omega (arith, q.0))
    chain a b c (inr p) (inl q) = inl (omega (arith, p.0))
    chain a b c (inr p) (inr q) = inr (p.0 ∙ q.0, omega (arith, p.1, q.1))

-- what a test of all neighbours says
pub ascend_is : (rows : List (ℕ × Version)) (r : Bool) → IsAllAdjacentAnswer (λ x y b. b ≡ comes_before x y) rows r
    → MatchBool r (AllPairs IsBefore rows) (HasStep rows)
ascend_is rows true h =
    all_before rows (λ k d l. less_pair (get_or rows k d).0 (get_or rows (k + 1) d).0 (get_or rows k d).1.update
    (get_or rows (k + 1) d).1.update (sym (h k d l)))
ascend_is rows false h = (h.0, h.1, λ d. sym (h.2 d))

-- each element stands so to the one behind it, the first to what stands before all
abbrev Chain : (ℕ × Version → ℕ × Version → Type 0) → ℕ × Version → List (ℕ × Version) → Type 0
Chain P k [] = Unit {0}
Chain P k (x ∷ xs) = P k x × Chain P x xs

-- in order, or alike
abbrev Follows : ℕ × Version → ℕ × Version → Type 0
Follows a b = comes_before b a ≡ false

-- in order, and not the same
abbrev Differs : ℕ × Version → ℕ × Version → Type 0
Differs a b = (comes_before b a ≡ false) × (a ≢ b)

-- the closure of `dedup_by` tells whether two rows are the same, and leaves them
abbrev pub TellsSame : {S : Type 0} (R : S → ℕ × Version → ℕ × Version → Bool → S → ℕ × Version → ℕ × Version → Type 0) → Type 0
TellsSame {S} R =
    (s : S) (x k : ℕ × Version) (b : Bool) (t : S) (left kept : ℕ × Version) → R s x k b t left kept
    → MatchBool b (x ≡ k) (x ≢ k) × (left ≡ x) × (kept ≡ k)

module _ {S : Type 0} (R : S → ℕ × Version → ℕ × Version → Bool → S → ℕ × Version → ℕ × Version → Type 0)
    (tells : TellsSame R) where
  -- what it leaves begins with the same element, has the same members, and no two alike beside each other
  deduped_from : (s : S) (k : ℕ × Version) (xs ys : List (ℕ × Version)) → DedupsFrom R s k xs ys → Chain Follows k xs
      → (zs : List (ℕ × Version)) × (ys ≡ k ∷ zs) × Chain Differs k zs × SameMembers (k ∷ xs) (k ∷ zs)
  deduped_from s k [] ys d up = ([], d, tt, record { kept = λ row m. m; only = λ row m. m })
  deduped_from s k (x ∷ xs) ys (true, t, left, kept, r, d) up =
      let q = tells s x k true t left kept r in
      let rest = deduped_from t k xs ys (subst (λ h. DedupsFrom R t h xs ys) q.2 d)
      (subst (λ h. Chain Follows h xs) q.0 up.1) in (
        rest.0,
        rest.1,
        rest.2,
        record {
          kept = λ row m. elim m [
            | inl e ↦ inl e
            | inr n ↦ elim n [ inl e ↦ inl (e ∙ q.0) | inr o ↦ rest.3.kept row (inr o) ]
          ];
          only = λ row m. elim (rest.3.only row m) [ inl e ↦ inl e | inr n ↦ inr (inr n) ];
        },
      )
  deduped_from s k (x ∷ xs) ys (false, t, left, kept, r, (zs, d, e)) up =
      let q = tells s x k false t left kept r in
      let rest = deduped_from t x xs zs (subst (λ h. DedupsFrom R t h xs zs) q.1 d) up.1 in (
        x ∷ rest.0,
        e ∙ ap (λ h. h ∷ zs) q.2 ∙ ap (λ h. k ∷ h) rest.1,
        ((up.0, λ same. q.0 (sym same)), rest.2),
        record {
          kept = λ row m. elim m [ inl f ↦ inl f | inr n ↦ inr (rest.3.kept row n) ];
          only = λ row m. elim m [ inl f ↦ inl f | inr n ↦ inr (rest.3.only row n) ];
        },
      )

sorted_chain : (x : ℕ × Version) (xs : List (ℕ × Version))
    → ((k : ℕ) (d : ℕ × Version) → k + 1 < length (x ∷ xs) → Follows (get_or (x ∷ xs) k d) (get_or (x ∷ xs) (k + 1) d))
    → Chain Follows x xs
sorted_chain x [] up = tt
sorted_chain x (y ∷ ys) up = (
  up 0 x (omega arith),
  sorted_chain y ys (λ k d h.
      let e : suc k + 1 ≡ suc (k + 1) = omega arith in
      subst (λ n. Follows (get_or (y ∷ ys) k d) (get_or (x ∷ y ∷ ys) n d)) e (up (suc k) d (omega arith))),
)

chain_order : (x : ℕ × Version) (xs : List (ℕ × Version)) → Chain Differs x xs → IsInOrder (x ∷ xs)
chain_order x [] up k d h = absurd (omega arith)
chain_order x (y ∷ ys) up zero d h = up.0
chain_order x (y ∷ ys) up (suc k) d h =
    let e : suc (k + 1) ≡ suc k + 1 = omega arith in
    subst (λ n. Differs (get_or (y ∷ ys) k d) (get_or (x ∷ y ∷ ys) n d)) e (chain_order y ys up.1 k d (omega arith))

module _ {S : Type 0} (R : S → ℕ × Version → ℕ × Version → Bool → S → ℕ × Version → ℕ × Version → Type 0)
    (tells : TellsSame R) where
  -- a list that was sorted, and then deduplicated
  pub deduped : (s : S) (xs ys : List (ℕ × Version)) → IsDeduped R s xs ys → IsSortedBy comes_before xs
      → SameMembers xs ys × IsInOrder ys
  deduped s [] ys d up = (
    subst (SameMembers []) (sym d.told) (record { kept = λ row m. m; only = λ row m. m }),
    subst IsInOrder (sym d.told) (λ k e h. absurd (omega arith)),
  )
  deduped s (x ∷ xs) ys d up =
      let r = deduped_from R tells s x xs ys d.told (sorted_chain x xs (λ k e h. up k e (omega arith) h)) in
      (subst (SameMembers (x ∷ xs)) (sym r.1) r.3, subst IsInOrder (sym r.1) (chain_order x r.0 r.2))

-- what moves the rows keeps them
pub moved : (xs ys : List (ℕ × Version)) → IsPermutation xs ys → SameMembers xs ys
moved xs ys p = record { kept = over xs ys p; only = over ys xs (IsPermutation-sym xs ys p) }
  where
    over : (xs ys : List (ℕ × Version)) → IsPermutation xs ys → (row : ℕ × Version) → Member row xs → Member row ys
    over xs ys p row m =
        let q = place_of row xs m in
        let r = Contains-permutation xs ys row p (q.0, q.1, q.2 row) in
        subst (λ h. Member h ys) r.2 (member_at ys r.0 row r.1)

pub joined : (xs ys zs : List (ℕ × Version)) → SameMembers xs ys → SameMembers ys zs → SameMembers xs zs
joined xs ys zs p q = record { kept = λ row m. q.kept row (p.kept row m); only = λ row m. p.only row (q.only row m) }

-- the order that the sort goes by
pub ranks : IsStrictWeakOrder comes_before
ranks =
    let total : IsTotalOrder row_cmp =
    then_total (on_total (λ (row : ℕ × Version). row.0) nat_cmp_total)
    (on_total (λ (row : ℕ × Version). row.1.update) nat_cmp_total) in
    ranks_by total (λ (row : ℕ × Version). row)

-- in order, and yet two neighbours that don't ascend: they are two readings
pub two_readings : (xs ys : List (ℕ × Version)) → SameMembers xs ys → IsInOrder ys → HasStep ys → TwoReadings xs
two_readings xs ys same order step =
    let d : ℕ × Version = no_row in
    let o = order step.0 d step.1 in
    let e = tied_pair (get_or ys step.0 d).0 (get_or ys (step.0 + 1) d).0 (get_or ys step.0 d).1.update
    (get_or ys (step.0 + 1) d).1.update (step.2 d) o.0 in
    let inside = step.1 in (
      get_or ys step.0 d,
      get_or ys (step.0 + 1) d,
      same.only _ (member_at ys step.0 d (omega arith)),
      same.only _ (member_at ys (step.0 + 1) d step.1),
      e.0,
      e.1,
      o.1,
    )

-- rows that ascend are one for each interval and update
pub one_each : (rows : List (ℕ × Version)) → AllPairs IsBefore rows → OneEach rows
one_each rows up a b m n e f =
    let p = place_of a rows m in
    let q = place_of b rows n in
    elim (cases_lt p.0 q.0) [
      | inl h ↦ absurd (apart a b (subst (λ x. IsBefore x b) (p.2 a) (subst (IsBefore (get_or rows p.0 a)) (q.2 a) (up p.0 q.0 a h q.1))) e f)
      | inr h ↦ elim (cases_lt q.0 p.0) [
        | inl k ↦ absurd (apart b a (subst (λ x. IsBefore x a) (q.2 a) (subst (IsBefore (get_or rows q.0 a)) (p.2 a) (up q.0 p.0 a k p.1))) (sym e) (sym f))
        | inr k ↦
            let same : p.0 ≡ q.0 = omega arith in
            sym (p.2 a) ∙ ap (λ i. get_or rows i a) same ∙ q.2 a
      ]
    ]
  where
    apart : (a b : ℕ × Version) → IsBefore a b → a.0 ≡ b.0 → a.1.update ≡ b.1.update → ⊥
    apart a b (inl h) e f = omega arith
    apart a b (inr h) e f = let less = h.1 in omega arith

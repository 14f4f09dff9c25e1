-- Stretches as they are found, from left to right: each is as long as can be, and between them no interval is such.
use Rattle.std.proofs.Common.{◌≡◌, ℕ, ◌+◌, ◌-◌, ◌<◌, ◌≤◌, List, [], ◌∷◌, ◌++◌, refl, sym, ap, subst, inl, inr, arith}
use Rattle.std.specs.List.{All, AllPairs}
use Rattle.std.proofs.lemmas.Bool.{cases_lt}
use Rattle.std.proofs.lemmas.List.Elements.{All-cons, All-nil, All-weaker}
use Rattle.std.proofs.lemmas.List.Kept.{AllPairs-cons}
use Rattle.mds_world.specs.Lists.{Member}
use Rattle.mds_registers.specs.Stretches.{IsStretch}

-- the first stretch of the intervals s to n
pub record IsTile {K : Type 0} (first last : K → ℕ) (IsSuch : K → ℕ → Type 0) (s n : ℕ) (x : K) : Type 0 where
  pub low : s ≤ first x
  pub none : (i : ℕ) → s ≤ i → i < first x → (y : K) → IsSuch y i → ⊥
  pub order : first x ≤ last x
  pub high : last x ≤ n
  pub all : (i : ℕ) → first x ≤ i → i ≤ last x → IsSuch x i
  pub behind : last x < n → IsSuch x (last x + 1) → ⊥

-- the stretches of the intervals s to n
abbrev pub Tiles : {K : Type 0} → (K → ℕ) → (K → ℕ) → (K → ℕ → Type 0) → ℕ → ℕ → List K → Type 0
Tiles {K = K} first last IsSuch s n [] = (i : ℕ) → s ≤ i → i ≤ n → (y : K) → IsSuch y i → ⊥
Tiles {K = K} first last IsSuch s n (x ∷ xs) =
    IsTile first last IsSuch s n x × Tiles first last IsSuch (last x + 1) n xs

module _ {K : Type 0} (first last : K → ℕ) (IsSuch : K → ℕ → Type 0) where
  -- a further interval that is no such
  pub none_more : (s n : ℕ) (xs : List K) → ((y : K) → IsSuch y (n + 1) → ⊥) → Tiles first last IsSuch s n xs
      → Tiles first last IsSuch s (n + 1) xs
  none_more s n [] none t = λ i low high y q. elim (cases_lt i (n + 1)) [
    | inl a ↦ t i low (omega arith) y q
    | inr b ↦ let e : i ≡ n + 1 = omega arith in none y (subst (IsSuch y) e q)
  ]
  none_more s n (x ∷ xs) none t = (
    record {
      low = t.0.low;
      none = t.0.none;
      order = t.0.order;
      high = let h = t.0.high in omega arith;
      all = t.0.all;
      behind = λ h q. elim (cases_lt (last x) n) [
        | inl a ↦ t.0.behind a q
        | inr b ↦ let e : last x + 1 ≡ n + 1 = omega arith in none x (subst (IsSuch x) e q)
      ];
    },
    none_more (last x + 1) n xs none t.1,
  )

  -- behind the last interval there is no stretch
  past : (s n : ℕ) (x : K) (xs : List K) → n < s → Tiles first last IsSuch s n (x ∷ xs) → ⊥
  past s n x xs over t =
      let low = t.0.low in let order = t.0.order in let high = t.0.high in absurd (omega arith)

  past_front : (s n : ℕ) (front : List K) (x : K) → n < s → Tiles first last IsSuch s n (front ++ x ∷ []) → ⊥
  past_front s n [] x over t = past s n x [] over t
  past_front s n (y ∷ front) x over t = past s n y (front ++ x ∷ []) over t

  -- the last stretch doesn't go on with the next interval
  abbrev pub EndsApart : List K → ℕ → Type 0
  EndsApart xs n = (front : List K) (x : K) → xs ≡ front ++ x ∷ [] → last x ≡ n → IsSuch x (n + 1) → ⊥

  ends_apart : (n : ℕ) (x : K) (xs : List K) → n ≤ last x → last x ≤ n → EndsApart (x ∷ xs) n
      → Tiles first last IsSuch (last x + 1) n xs → IsSuch x (n + 1) → ⊥
  ends_apart n x [] low high apart t q = apart [] x refl (omega arith) q
  ends_apart n x (y ∷ xs) low high apart t q = past (last x + 1) n y xs (omega arith) t

  -- a further interval that begins a stretch
  pub begins : (s n : ℕ) (xs : List K) (y : K) → s ≤ n + 1 → first y ≡ n + 1 → last y ≡ n + 1 → IsSuch y (n + 1)
      → EndsApart xs n → Tiles first last IsSuch s n xs → Tiles first last IsSuch s (n + 1) (xs ++ y ∷ [])
  begins s n [] y from f l q apart t = (
    record {
      low = omega arith;
      none = λ i low high. t i low (omega arith);
      order = omega arith;
      high = omega arith;
      all = λ i low high. let e : n + 1 ≡ i = omega arith in subst (IsSuch y) e q;
      behind = λ h r. absurd (omega arith);
    },
    (λ i low high z r. absurd (omega arith)),
  )
  begins s n (x ∷ xs) y from f l q apart t = let within = t.0.high in (
    record {
      low = t.0.low;
      none = t.0.none;
      order = t.0.order;
      high = omega arith;
      all = t.0.all;
      behind = λ h r. elim (cases_lt (last x) n) [
        | inl a ↦ t.0.behind a r
        | inr b ↦
            let e : last x + 1 ≡ n + 1 = omega arith in
            ends_apart n x xs b within apart t.1 (subst (IsSuch x) e r)
      ];
    },
    begins (last x + 1) n xs y (omega arith) f l q (λ front z e. apart (x ∷ front) z (ap (λ r. x ∷ r) e)) t.1,
  )

  -- a further interval that the last stretch goes on with
  pub goes_on : (s n : ℕ) (front : List K) (x y : K) → last x ≡ n → first y ≡ first x → last y ≡ n + 1
      → ((i : ℕ) → IsSuch x i → IsSuch y i) → IsSuch y (n + 1) → Tiles first last IsSuch s n (front ++ x ∷ [])
      → Tiles first last IsSuch s (n + 1) (front ++ y ∷ [])
  goes_on s n [] x y l f m to q t = let low = t.0.low in let order = t.0.order in (
    record {
      low = omega arith;
      none = λ i a b. t.0.none i a (omega arith);
      order = omega arith;
      high = omega arith;
      all = λ i a b. elim (cases_lt i (n + 1)) [
        | inl c ↦ to i (t.0.all i (omega arith) (omega arith))
        | inr d ↦ let e : n + 1 ≡ i = omega arith in subst (IsSuch y) e q
      ];
      behind = λ h r. absurd (omega arith);
    },
    (λ i a b z r. absurd (omega arith)),
  )
  goes_on s n (z ∷ front) x y l f m to q t = let within = t.0.high in (
    record {
      low = t.0.low;
      none = t.0.none;
      order = t.0.order;
      high = omega arith;
      all = t.0.all;
      behind = λ h r. elim (cases_lt (last z) n) [
        | inl a ↦ t.0.behind a r
        | inr b ↦ absurd (past_front (last z + 1) n front x (omega arith) t.1)
      ];
    },
    goes_on (last z + 1) n front x y l f m to q t.1,
  )

  -- each begins behind those in front of it
  from_low : (s n : ℕ) (xs : List K) → Tiles first last IsSuch s n xs → All (λ x. s ≤ first x) xs
  from_low s n [] t = All-nil (λ x. s ≤ first x)
  from_low s n (x ∷ xs) t =
      let low = t.0.low in let order = t.0.order in
      All-cons (λ y. s ≤ first y) x xs low
      (All-weaker (λ y. last x + 1 ≤ first y) (λ y. s ≤ first y) (λ y h. omega arith) xs (from_low (last x + 1) n xs t.1))

  pub ascending : (s n : ℕ) (xs : List K) → Tiles first last IsSuch s n xs → AllPairs (λ a b. first a < first b) xs
  ascending s n [] t = λ i j d a b. absurd (omega arith)
  ascending s n (x ∷ xs) t =
      let order = t.0.order in
      AllPairs-cons (λ a b. first a < first b) x xs
      (All-weaker (λ y. last x + 1 ≤ first y) (λ y. first x < first y) (λ y h. omega arith) xs (from_low (last x + 1) n xs t.1))
      (ascending (last x + 1) n xs t.1)

  -- Two that may hold one interval may hold the same ones, and are equal where they also begin and end together.
  module _ (alike : (i j : ℕ) (a b : K) → IsSuch a i → IsSuch b i → IsSuch a j → IsSuch b j)
      (same : (i : ℕ) (a b : K) → IsSuch a i → IsSuch b i → first a ≡ first b → last a ≡ last b → a ≡ b) where
    -- no stretch goes on over the interval s from the one before it
    abbrev pub IsEdge : ℕ → ℕ → Type 0
    IsEdge s n = (y : K) → 1 < s → s ≤ n → IsSuch y (s - 1) → IsSuch y s → ⊥

    next_edge : (s n : ℕ) (x : K) → IsTile first last IsSuch s n x → IsEdge (last x + 1) n
    next_edge s n x t = λ y over within before here.
        let e : last x + 1 - 1 ≡ last x = omega arith in
        let order = t.order in
        t.behind (omega arith)
        (alike (last x) (last x + 1) y x (subst (IsSuch y) e before) (t.all (last x) order (omega arith)) here)

    first_is : (s n : ℕ) (x : K) → 1 ≤ s → IsEdge s n → IsTile first last IsSuch s n x
        → IsStretch (IsSuch x) n (first x) (last x)
    first_is s n x from edge t = let low = t.low in let order = t.order in let high = t.high in record {
      from_one = omega arith;
      in_order = order;
      within = high;
      all = t.all;
      before = λ h q. elim (cases_lt s (first x)) [
        | inl a ↦ t.none (first x - 1) (omega arith) (omega arith) x q
        | inr b ↦
            let e : first x ≡ s = omega arith in
            edge x (omega arith) (omega arith) (subst (λ k. IsSuch x (k - 1)) e q)
            (subst (IsSuch x) e (t.all (first x) (omega arith) order))
      ];
      behind = t.behind;
    }

    -- each is a stretch
    pub are_stretches : (s n : ℕ) (xs : List K) (x : K) → 1 ≤ s → IsEdge s n → Tiles first last IsSuch s n xs
        → Member x xs → IsStretch (IsSuch x) n (first x) (last x)
    are_stretches s n [] x from edge t m = absurd m
    are_stretches s n (y ∷ ys) x from edge t (inl e) =
        subst (λ k. IsStretch (IsSuch k) n (first k) (last k)) (sym e) (first_is s n y from edge t.0)
    are_stretches s n (y ∷ ys) x from edge t (inr m) =
        are_stretches (last y + 1) n ys x (omega arith) (next_edge s n y t.0) t.1 m

    -- a stretch that begins in another is that one
    same_place : (s n : ℕ) (x y : K) → IsStretch (IsSuch x) n (first x) (last x) → IsTile first last IsSuch s n y
        → 1 ≤ s → first y ≤ first x → first x ≤ last y → x ≡ y
    same_place s n x y is t from low high =
        let order = t.order in let within = t.high in let least = t.low in
        let in_order = is.in_order in let most = is.within in
        let here : IsSuch x (first x) = is.all (first x) (omega arith) in_order in
        let there : IsSuch y (first x) = t.all (first x) low high in
        let starts : first x ≡ first y = elim (cases_lt (first y) (first x)) [
          | inl a ↦ absurd (is.before (omega arith)
              (alike (first x) (first x - 1) y x there here (t.all (first x - 1) (omega arith) (omega arith))))
          | inr b ↦ omega arith
        ] in
        let ends : last x ≡ last y = elim (cases_lt (last x) (last y)) [
          | inl a ↦ absurd (is.behind (omega arith)
              (alike (first x) (last x + 1) y x there here (t.all (last x + 1) (omega arith) (omega arith))))
          | inr b ↦ elim (cases_lt (last y) (last x)) [
            | inl c ↦ absurd (t.behind (omega arith)
                (alike (first x) (last y + 1) x y here there (is.all (last y + 1) (omega arith) (omega arith))))
            | inr d ↦ omega arith
          ]
        ] in
        same (first x) x y here there starts ends

    -- each stretch is there
    pub are_all : (s n : ℕ) (xs : List K) (x : K) → 1 ≤ s → s ≤ first x → IsStretch (IsSuch x) n (first x) (last x)
        → Tiles first last IsSuch s n xs → Member x xs
    are_all s n [] x from low is t =
        let in_order = is.in_order in let most = is.within in
        absurd (t (first x) low (omega arith) x (is.all (first x) (omega arith) in_order))
    are_all s n (y ∷ ys) x from low is t =
        let in_order = is.in_order in
        elim (cases_lt (first x) (first y)) [
          | inl a ↦ absurd (t.0.none (first x) low a x (is.all (first x) (omega arith) in_order))
          | inr b ↦ elim (cases_lt (last y) (first x)) [
            | inl c ↦ inr (are_all (last y + 1) n ys x (omega arith) (omega arith) is t.1)
            | inr d ↦ inl (same_place s n x y is t.0 from b d)
          ]
        ]

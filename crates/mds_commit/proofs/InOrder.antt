-- Lists in the order of days.
use Rattle.std.specs.Prelude.{◌≡◌, ◌↔◌, ◌<◌, ◌+◌, ℕ, Bool, true, false, List, [], ◌∷◌, drop, length, map, slice_index_or, take, IsTrue, refl}
use Rattle.std.proofs.Common.{sym, ap, subst, inl, inr, suc, zero, ◌∙◌, arith}
use Rattle.std.proofs.lemmas.Bool.{cases_lt}
use Rattle.std.proofs.lemmas.Cmp.{ranked}
use Rattle.std.proofs.lemmas.List.{get_or-take}
use Rattle.std.specs.List.{All, AllPairs, IsAllAdjacentAnswer}
use Rattle.std.specs.Ordering.{MatchOrdering, is_lt, nat_cmp}
use Rattle.std.specs.declared.cmp.Ordering.{Ordering}
use Rattle.std.specs.declared.cmp.Ordering.TheVariants.{Less, Equal, Greater}
use Rattle.mds_world.specs.Lists.{Member}
use Rattle.mds_tables.proofs.MemberLemmas.{place_of}

-- what holds of all of a list
pub of_all : {X : Type 0} (P : X → Type 0) (xs : List X) → All P xs → (x : X) → Member x xs → P x
of_all P xs all x m = let i = place_of xs x x m in subst P i.2 (all i.0 x i.1)

module _ {X : Type 0} (day : X → ℕ) where
  abbrev pub Ascend : List X → Type 0
  Ascend xs = AllPairs (λ a b. day a < day b) xs

  -- two of one day are one
  pub same_one : (xs : List X) → Ascend xs → (a b : X) → Member a xs → Member b xs → day a ≡ day b → a ≡ b
  same_one xs up a b m n same =
      let i = place_of xs a a m in
      let j = place_of xs b a n in
      let first : day (slice_index_or xs i.0 a) ≡ day a = ap day i.2 in
      let second : day (slice_index_or xs j.0 a) ≡ day b = ap day j.2 in
      elim (cases_lt i.0 j.0) [
        | inl less ↦ let h = up i.0 j.0 a less j.1 in absurd (omega (arith, h, first, second, same))
        | inr more ↦ elim (cases_lt j.0 i.0) [
          | inl less ↦ let h = up j.0 i.0 a less i.1 in absurd (omega (arith, h, first, second, same))
          | inr less ↦
              let one : i.0 ≡ j.0 = omega arith in
              sym i.2 ∙ ap (λ k. slice_index_or xs k a) one ∙ j.2
        ]
      ]

  -- what stands before a place is of an earlier day than what stands there
  pub is_earlier : (xs : List X) → Ascend xs → (i : ℕ) → i < length xs → (a b : X) → Member a (take i xs) → b ≡ slice_index_or xs i b → day a < day b
  is_earlier xs up i low a b m is =
      let j = place_of (take i xs) a b m in
      let below : j.0 < i = short xs i j.0 j.1 in
      let first : day (slice_index_or xs j.0 b) ≡ day a = ap day (sym (get_or-take i xs j.0 b below) ∙ j.2) in
      let second : day (slice_index_or xs i b) ≡ day b = ap day (sym is) in
      let h = up j.0 i b below low in
      omega (arith, h, first, second)
    where
      short : (xs : List X) (i j : ℕ) → j < length (take i xs) → j < i
      short [] zero j l = absurd (omega (arith, l))
      short [] (suc i) j l = absurd (omega (arith, l))
      short (x ∷ xs) zero j l = absurd (omega (arith, l))
      short (x ∷ xs) (suc i) zero l = omega arith
      short (x ∷ xs) (suc i) (suc j) l = let less = short xs i j (omega (arith, l)) in omega (arith, less)

  -- ---- a test of all neighbours

  abbrev pub comes_before : X → X → Bool
  comes_before a b = is_lt (nat_cmp (day a) (day b))

  lt_is : (m n : ℕ) (r : Ordering) → MatchOrdering r (m < n) (m ≡ n) (n < m) → is_lt r ≡ true → m < n
  lt_is m n Less is h = is
  lt_is m n Equal is h = absurd (cc)
  lt_is m n Greater is h = absurd (cc)

  not_lt : (m n : ℕ) (r : Ordering) → MatchOrdering r (m < n) (m ≡ n) (n < m) → is_lt r ≡ false → m < n → ⊥
  not_lt m n Less is h less = absurd (cc)
  not_lt m n Equal is h less = omega (arith, is, less)
  not_lt m n Greater is h less = omega (arith, is, less)

  -- neighbours in order make all pairs so
  all_before : (xs : List X) → ((k : ℕ) (d : X) → k + 1 < length xs → day (slice_index_or xs k d) < day (slice_index_or xs (k + 1) d)) → Ascend xs
  all_before xs up i zero d less low = absurd (omega (arith, less))
  all_before xs up i (suc j) d less low =
      let next : j + 1 ≡ suc j = omega arith in
      let step : day (slice_index_or xs j d) < day (slice_index_or xs (suc j) d) =
      subst (λ n. day (slice_index_or xs j d) < day (slice_index_or xs n d)) next (up j d (omega (arith, low))) in
      elim (cases_lt i j) [
        | inl earlier ↦ let h = all_before xs up i j d earlier (omega (arith, low)) in omega (arith, h, step)
        | inr other ↦
            let same : j ≡ i = omega (arith, other, less) in
            subst (λ n. day (slice_index_or xs n d) < day (slice_index_or xs (suc j) d)) same step
      ]

  one_step : (xs : List X) (k : ℕ) → k + 1 < length xs
      → ((d : X) → comes_before (slice_index_or xs k d) (slice_index_or xs (k + 1) d) ≡ false) → Ascend xs → ⊥
  one_step [] k low fails up = absurd (omega (arith, low))
  one_step (x ∷ xs) k low fails up =
      let a = day (slice_index_or (x ∷ xs) k x) in
      let b = day (slice_index_or (x ∷ xs) (k + 1) x) in
      not_lt a b (nat_cmp a b) (ranked a b _ refl) (fails x) (up k (k + 1) x (omega arith) low)

  pub ascends : (xs : List X) (r : Bool) → IsAllAdjacentAnswer (λ x y b. b ≡ comes_before x y) xs r → IsTrue r ↔ Ascend xs
  ascends xs true h = (
    (λ _. all_before xs (λ k d low.
        let a = day (slice_index_or xs k d) in
        let b = day (slice_index_or xs (k + 1) d) in
        lt_is a b (nat_cmp a b) (ranked a b _ refl) (sym (h k d low)))),
    (λ _. refl),
  )
  ascends xs false h = ((λ never. absurd (cc never)), (λ up. absurd (one_step xs h.0 h.1 (λ d. sym (h.2 d)) up)))

get_map : {X Y : Type 0} (f : X → Y) (xs : List X) (i : ℕ) (y : Y) (x : X) → i < length (map f xs) → slice_index_or (map f xs) i y ≡ f (slice_index_or xs i x)
get_map f [] i y x low = absurd (omega (arith, low))
get_map f (a ∷ xs) zero y x low = refl
get_map f (a ∷ xs) (suc i) y x low = get_map f xs i y x (omega (arith, low))

as_long : {X Y : Type 0} (f : X → Y) (xs : List X) → length (map f xs) ≡ length xs
as_long f [] = refl
as_long f (x ∷ xs) = ap suc (as_long f xs)

-- an order of what is made of things is one of the things
pub ascend_map : {X Y : Type 0} (f : X → Y) (day : Y → ℕ) (xs : List X) → Ascend (λ x. day (f x)) xs → Ascend day (map f xs)
ascend_map f day [] up i j y less low = absurd (omega (arith, low))
ascend_map f day (x ∷ xs) up i j y less low =
    let long = as_long f (x ∷ xs) in
    let h = up i j x less (omega (arith, low, long)) in
    let first = ap day (get_map f (x ∷ xs) i y x (omega (arith, less, low))) in
    let second = ap day (get_map f (x ∷ xs) j y x low) in
    omega (arith, h, first, second)

-- what stands behind the first of a list
pub next_is : {X : Type 0} (xs : List X) (i : ℕ) (x y : X) (later : List X) → x ≡ slice_index_or xs i x → drop i xs ≡ y ∷ later
    → x ≡ y
next_is [] zero x y later is split = absurd (cc)
next_is [] (suc i) x y later is split = absurd (cc)
next_is (z ∷ xs) zero x y later is split = let first : z ≡ y = cc in is ∙ first
next_is (z ∷ xs) (suc i) x y later is split = next_is xs i x y later is split

pub no_next : {X : Type 0} (xs : List X) (y : X) (later : List X) → drop (length xs) xs ≡ y ∷ later → ⊥
no_next [] y later split = absurd (cc)
no_next (x ∷ xs) y later split = no_next xs y later split

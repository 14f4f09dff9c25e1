-- Pairs of a list that stand in order.
use Rattle.std.proofs.Common.{◌≡◌, ◌≤◌, suc, List, [], ◌∷◌, ◌++◌, map, length, get_or, refl, sym, ap, ◌∙◌, subst, inl, inr, arith}
use Rattle.std.specs.List.{All, AllPairs}
use Rattle.std.proofs.lemmas.List.{get_or-map, length-map}
use Rattle.std.proofs.lemmas.List.Kept.{AllPairs-cons}
use Rattle.mds_world.proofs.Lists.{append_left, append_right, member_append}
use Rattle.mds_world.specs.Lists.{Apart, Member}
use Rattle.mds_keeper.proofs.BookPlaces.{member_at, place_of}

module _ {X : Type 0} where
  -- what holds of all holds of each member
  pub all_member : (P : X → Type 0) (xs : List X) (x : X) → All P xs → Member x xs → P x
  all_member P xs x all m = let p = place_of x xs m in subst P (p.2 x) (all p.0 x p.1)

  pub member_all : (P : X → Type 0) (xs : List X) → ((x : X) → Member x xs → P x) → All P xs
  member_all P xs h = λ k d within. h (get_or xs k d) (member_at xs k d within)

  pub pairs_head : (R : X → X → Type 0) (x : X) (xs : List X) → AllPairs R (x ∷ xs) → (y : X) → Member y xs → R x y
  pairs_head R x xs up y m =
      let p = place_of y xs m in
      subst (R x) (p.2 y) (up 0 (suc p.0) y (omega arith) (omega (arith, p.1)))

  pub pairs_tail : (R : X → X → Type 0) (x : X) (xs : List X) → AllPairs R (x ∷ xs) → AllPairs R xs
  pairs_tail R x xs up = λ i j d less within. up (suc i) (suc j) d (omega (arith, less)) (omega (arith, within))

  pub pairs_none : (R : X → X → Type 0) → AllPairs R []
  pairs_none R = λ i j d less within. absurd (omega (arith, within))

  pub pairs_one : (R : X → X → Type 0) (x : X) → AllPairs R (x ∷ [])
  pairs_one R x = λ i j d less within. absurd (omega (arith, less, within))

  -- each of the one list stands before each of the other
  pub pairs_append : (R : X → X → Type 0) (xs ys : List X) → AllPairs R xs → AllPairs R ys
      → ((x y : X) → Member x xs → Member y ys → R x y) → AllPairs R (xs ++ ys)
  pairs_append R [] ys a b across = b
  pairs_append R (x ∷ xs) ys a b across =
      AllPairs-cons R x (xs ++ ys)
      (member_all (R x) (xs ++ ys) (λ y m. elim (member_append y xs ys m) [
        | inl c ↦ pairs_head R x xs a y c
        | inr c ↦ across x y (inl refl) c
      ]))
      (pairs_append R xs ys (pairs_tail R x xs a) b (λ z y m n. across z y (inr m) n))

  -- what stands in order stands there once
  pub pairs_apart : (R : X → X → Type 0) → ((x : X) → R x x → ⊥) → (xs : List X) → AllPairs R xs → Apart xs
  pairs_apart R never [] up = tt
  pairs_apart R never (x ∷ xs) up =
      ((λ m. never x (pairs_head R x xs up x m)), pairs_apart R never xs (pairs_tail R x xs up))

  member_split : (x : X) (ys : List X) → Member x ys
      → (front : List X) × (rest : List X) × (ys ≡ front ++ x ∷ rest)
  member_split x [] m = absurd m
  member_split x (y ∷ ys) (inl e) = ([], ys, ap (λ z. z ∷ ys) (sym e))
  member_split x (y ∷ ys) (inr m) = let s = member_split x ys m in (y ∷ s.0, s.1, ap (λ l. y ∷ l) s.2)

  longer : (x : X) (front rest : List X) → length (front ++ x ∷ rest) ≡ suc (length (front ++ rest))
  longer x [] rest = refl
  longer x (y ∷ front) rest = ap suc (longer x front rest)

  -- distinct members of a list are no more than it has
  pub no_more : (xs ys : List X) → Apart xs → ((x : X) → Member x xs → Member x ys) → length xs ≤ length ys
  no_more [] ys apart within = omega arith
  no_more (x ∷ xs) ys apart within =
      let s = member_split x ys (within x (inl refl)) in
      let size : length ys ≡ suc (length (s.0 ++ s.1)) = ap length s.2 ∙ longer x s.0 s.1 in
      let later = no_more xs (s.0 ++ s.1) apart.1 (λ z m.
      elim (member_append z s.0 (x ∷ s.1) (subst (Member z) s.2 (within z (inr m)))) [
        | inl a ↦ append_left z s.0 s.1 a
        | inr b ↦ elim b [
          | inl e ↦ absurd (apart.0 (subst (λ k. Member k xs) e m))
          | inr c ↦ append_right z s.0 s.1 c
        ]
      ]) in
      omega (arith, size, later)

-- pairs of what a function makes of a list
pub pairs_map : {X Y : Type 0} (f : X → Y) (R : Y → Y → Type 0) (xs : List X) → AllPairs R (map f xs)
    → AllPairs (λ a b. R (f a) (f b)) xs
pairs_map f R xs up = λ i j d less within.
    let n = length-map xs f in
    let a = get_or-map f xs i d (f d) (omega (arith, less, within)) in
    let b = get_or-map f xs j d (f d) within in
    subst (λ z. R z (f (get_or xs j d))) a
    (subst (λ z. R (get_or (map f xs) i (f d)) z) b (up i j (f d) less (omega (arith, n, within))))

pub map_pairs : {X Y : Type 0} (f : X → Y) (R : Y → Y → Type 0) (xs : List X) → AllPairs (λ a b. R (f a) (f b)) xs
    → AllPairs R (map f xs)
map_pairs f R [] up = pairs_none R
map_pairs {X} {Y} f R (x ∷ xs) up =
    let S : X → X → Type 0 = λ a b. R (f a) (f b) in
    AllPairs-cons R (f x) (map f xs)
    (member_all (R (f x)) (map f xs) (λ y m. by xs y m (pairs_head S x xs up)))
    (map_pairs f R xs (pairs_tail S x xs up))
  where
    by : (ls : List X) (y : Y) → Member y (map f ls) → ((z : X) → Member z ls → R (f x) (f z)) → R (f x) y
    by [] y m h = absurd m
    by (l ∷ ls) y (inl e) h = subst (R (f x)) (sym e) (h l (inl refl))
    by (l ∷ ls) y (inr m) h = by ls y m (λ z k. h z (inr k))

-- The rows of a day's book by their places: lemmas.
use Rattle.std.specs.Prelude.{◌≡◌, ◌⊎◌, ◌-◌, ◌<◌, ◌≤◌, ℕ, List, [], ◌∷◌, length, refl}
use Rattle.std.specs.List.{AllPairs}
use Rattle.std.proofs.Common.{sym, ap, inl, inr, arith, zero, suc, get_or}
use Rattle.std.proofs.lemmas.Bool.{cases_lt}
use Rattle.mds_world.specs.Current.{no_reading}
use Rattle.mds_world.specs.Lists.{Member}
use Rattle.mds_keeper.specs.BookPlaces.{EndsAt}
use Rattle.mds_keeper.specs.BookRows.{IsBefore}
use Rattle.mds_keeper.specs.declared.day_book.Version.{Version}

-- the element of a place is a member
pub member_at : {X : Type 0} (xs : List X) (k : ℕ) (d : X) → k < length xs → Member (get_or xs k d) xs
member_at [] k d h = absurd (omega arith)
member_at (x ∷ xs) zero d h = inl refl
member_at (x ∷ xs) (suc k) d h = inr (member_at xs k d (omega arith))

-- a member has a place
pub place_of : {X : Type 0} (x : X) (xs : List X) → Member x xs
    → (k : ℕ) × (k < length xs) × ((d : X) → get_or xs k d ≡ x)
place_of x [] m = absurd m
place_of x (y ∷ ys) (inl e) = (0, omega arith, λ d. sym e)
place_of x (y ∷ ys) (inr m) = let p = place_of x ys m in (suc p.0, omega arith, p.2)

-- rows that ascend do so by their intervals
pub by_interval : (rows : List (ℕ × Version)) → AllPairs IsBefore rows → (i j : ℕ) (d : ℕ × Version) → i ≤ j
    → j < length rows → (get_or rows i d).0 ≤ (get_or rows j d).0
by_interval rows up i j d h k = elim (cases i j h) [
  | inl less ↦ elim (up i j d less k) [ inl a ↦ omega arith | inr b ↦ let e = b.0 in omega arith ]
  | inr same ↦ let e = ap (λ n. (get_or rows n d).0) same in omega arith
]
  where
    cases : (i j : ℕ) → i ≤ j → (i < j) ⊎ (i ≡ j)
    cases zero zero h = inr refl
    cases zero (suc j) h = inl (omega arith)
    cases (suc i) zero h = absurd (omega arith)
    cases (suc i) (suc j) h = elim (cases i j (omega arith)) [ inl a ↦ inl (omega arith) | inr b ↦ inr (ap suc b) ]

-- a row of the interval, or of one below it, stands before the end
pub before_end : (rows : List (ℕ × Version)) (interval end : ℕ) → EndsAt rows interval end → (row : ℕ × Version)
    → Member row rows → row.0 ≤ interval
    → (k : ℕ) × (k < end) × (k < length rows) × ((d : ℕ × Version) → get_or rows k d ≡ row)
before_end rows interval end ends row m h =
    let p = place_of row rows m in
    elim (cases_lt p.0 end) [
      | inl a ↦ (p.0, a, p.1, p.2)
      | inr b ↦
          let e = ap (λ (r : ℕ × Version). r.0) (p.2 row) in
          let above = ends.above p.0 row b p.1 in
          absurd (omega arith)
    ]

-- a row, to read places of no row by
pub no_row : ℕ × Version
no_row = (0, record { update = 0; length = 0; reading = no_reading })

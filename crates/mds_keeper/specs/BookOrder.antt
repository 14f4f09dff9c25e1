-- The order of the rows of a day's book.
use Rattle.std.specs.Prelude.{◌≡◌, ◌≢◌, ◌+◌, ◌<◌, ◌≤◌, ℕ, Bool, true, false, cond, nat_eq, List, length, get_or}
use Rattle.std.specs.List.{AllPairs}
use Rattle.std.specs.Ordering.{is_lt, nat_cmp, ordering_then}
use Rattle.std.specs.declared.cmp.Ordering.{Ordering}
use Rattle.mds_world.specs.Lists.{Member}
use Rattle.mds_keeper.specs.declared.day_book.Version.{Version}

-- by interval, then by update
abbrev pub row_cmp : ℕ × Version → ℕ × Version → Ordering
row_cmp a b = ordering_then (nat_cmp a.0 b.0) (nat_cmp a.1.update b.1.update)

abbrev pub comes_before : ℕ × Version → ℕ × Version → Bool
comes_before a b = is_lt (row_cmp a b)

-- two of the rows have the same interval and update, and differ
abbrev pub TwoReadings : List (ℕ × Version) → Type 0
TwoReadings rows =
    (a b : ℕ × Version) × Member a rows × Member b rows × (a.0 ≡ b.0) × (a.1.update ≡ b.1.update) × (a ≢ b)

-- both lists have the same members
pub record SameMembers (old new : List (ℕ × Version)) : Type 0 where
  pub kept : (row : ℕ × Version) → Member row old → Member row new
  pub only : (row : ℕ × Version) → Member row new → Member row old

-- no row comes before its predecessor, or equals it
abbrev pub IsInOrder : List (ℕ × Version) → Type 0
IsInOrder rows = (k : ℕ) (d : ℕ × Version) → k + 1 < length rows
    → (comes_before (get_or rows (k + 1) d) (get_or rows k d) ≡ false) × (get_or rows k d ≢ get_or rows (k + 1) d)

-- two neighbours, the first of which doesn't come before the second
abbrev pub HasStep : List (ℕ × Version) → Type 0
HasStep rows = (k : ℕ) × (k + 1 < length rows)
    × ((d : ℕ × Version) → comes_before (get_or rows k d) (get_or rows (k + 1) d) ≡ false)

-- no row has an earlier update than one before it
abbrev pub AscendByUpdate : List (ℕ × Version) → Type 0
AscendByUpdate rows = AllPairs (λ a b. a.1.update ≤ b.1.update) rows

-- the first row has an earlier update than the second
abbrev pub is_earlier : ℕ × Version → ℕ × Version → Bool
is_earlier a b = is_lt (nat_cmp a.1.update b.1.update)

-- the rows have different updates, or the same length
abbrev pub agrees : ℕ × Version → ℕ × Version → Bool
agrees a b = cond (nat_eq a.1.update b.1.update) (nat_eq a.1.length b.1.length) true

-- The rows of a day's book by their positions.
use Rattle.std.specs.Prelude.{◌<◌, ◌≤◌, ℕ, List, get_or, length}
use Rattle.mds_keeper.specs.declared.day_book.Version.{Version}

-- the rows of lower intervals end there
pub record StartsAt (rows : List (ℕ × Version)) (interval start : ℕ) : Type 0 where
  pub within : start ≤ length rows
  pub below : (k : ℕ) (d : ℕ × Version) → k < start → (get_or rows k d).0 < interval
  pub from : (k : ℕ) (d : ℕ × Version) → start ≤ k → k < length rows → interval ≤ (get_or rows k d).0

-- the rows of intervals up to this one end there
pub record EndsAt (rows : List (ℕ × Version)) (interval end : ℕ) : Type 0 where
  pub within : end ≤ length rows
  pub below : (k : ℕ) (d : ℕ × Version) → k < end → (get_or rows k d).0 ≤ interval
  pub above : (k : ℕ) (d : ℕ × Version) → end ≤ k → k < length rows → interval < (get_or rows k d).0

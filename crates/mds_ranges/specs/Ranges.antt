-- What a range of days of a stream shows: its gaps and its finals (profile). A range is from a first day to a last
-- day, both included; it is empty if the last is before the first.
use Rattle.std.specs.Prelude.{◌≡◌, ◌↔◌, ◌⊎◌, ◌+◌, ◌<◌, ◌≤◌, ℕ, List}
use Rattle.std.specs.List.{AllPairs}
use Rattle.mds_names.specs.declared.stream.Stream.{Stream}
use Rattle.mds_world.specs.Lists.{Member}
use Rattle.mds_world.specs.World.{World}
use Rattle.mds_registers.specs.Stretches.{IsFinal, IsGap}
use Rattle.mds_registers.specs.declared.writing.FinalRow.{FinalRow}
use Rattle.mds_registers.specs.declared.writing.GapRow.{GapRow}

-- it has more than 400 days
abbrev pub IsTooWide : ℕ → ℕ → Type 0
IsTooWide first last = first + 400 ≤ last

-- The rows of a range: all that satisfy `IsSuch` on one of its days, ascending by day and then by first interval.
pub record AreRows {Row : Type 0} (day_in first_in : Row → ℕ) (IsSuch : Row → Type 0) (first last : ℕ) (rows : List Row)
    : Type 0 where
  pub each : (row : Row) → Member row rows ↔ ((first ≤ day_in row) × (day_in row ≤ last) × IsSuch row)
  pub ascending :
      AllPairs (λ a b. (day_in a < day_in b) ⊎ ((day_in a ≡ day_in b) × (first_in a < first_in b))) rows

-- The gaps of a range; a day of it that isn't known is the one gap 0 to 0.
abbrev pub AreGapRows : World → Stream → ℕ → ℕ → List GapRow → Type 0
AreGapRows w stream first last rows =
    AreRows (λ row. row.day) (λ row. row.gap.first) (λ row. IsGap w stream row.day row.gap) first last rows

-- The finals of a range.
abbrev pub AreFinalRows : World → Stream → ℕ → ℕ → List FinalRow → Type 0
AreFinalRows w stream first last rows =
    AreRows (λ row. row.day) (λ row. row.stretch.first) (λ row. IsFinal w stream row.day row.stretch) first last rows

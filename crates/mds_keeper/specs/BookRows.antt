-- The rows of a day's book.
use Rattle.std.specs.Prelude.{◌≡◌, ◌≢◌, ◌↔◌, ◌⊎◌, ℕ, ◌<◌, ◌≤◌, List, [], Option, Some, None, IfNone, IfSome}
use Rattle.std.specs.List.{All, AllPairs}
use Rattle.mds_calendar.specs.Length.{count_of}
use Rattle.mds_quantity.specs.declared.unit.Unit.{Unit as MeasureUnit}
use Rattle.mds_names.specs.declared.stream.Stream.{Stream}
use Rattle.mds_marks.specs.Reading.{ReadingValue}
use Rattle.mds_world.specs.Facts.{key_at}
use Rattle.mds_world.specs.Facts.Fact.{VersionIs}
use Rattle.mds_world.specs.Lists.{Member}
use Rattle.mds_world.specs.Sets.{◌∈◌}
use Rattle.mds_world.specs.World.{IsLawful, World}
use Rattle.mds_keeper.specs.Books.{BookValue, IsDay, book_world}
use Rattle.mds_keeper.specs.declared.day_book.Version.{Version}

-- the first row comes before the second: by interval, then by update
abbrev pub IsBefore : ℕ × Version → ℕ × Version → Type 0
IsBefore a b = (a.0 < b.0) ⊎ ((a.0 ≡ b.0) × (a.1.update < b.1.update))

-- it is lawful alone, and its rows ascend
pub record IsBook (book : BookValue) : Type 0 where
  pub lawful : IsLawful (book_world book)
  pub ascending : AllPairs IsBefore book.rows

-- The versions of an interval of any length, by ascending update, each once.
pub record AreVersionsOf (w : World) (stream : Stream) (day interval : ℕ) (rows : List (ℕ × Version)) : Type 0 where
  pub each : (update minutes : ℕ) (reading : ReadingValue)
      → Member (interval, record { update = update; length = minutes; reading = reading }) rows
      ↔ (VersionIs (key_at stream day minutes interval update) reading ∈ w)
  pub here : All (λ row. row.0 ≡ interval) rows
  pub ascending : AllPairs (λ a b. a.1.update < b.1.update) rows

-- rows of the same update have the same length
abbrev pub OneLength : List (ℕ × Version) → Type 0
OneLength rows =
    (a b : ℕ × Version) → Member a rows → Member b rows → a.1.update ≡ b.1.update → a.1.length ≡ b.1.length

-- two rows of the same update have different lengths
abbrev pub TwoLengths : List (ℕ × Version) → Type 0
TwoLengths rows =
    (a b : ℕ × Version) × Member a rows × Member b rows × (a.1.update ≡ b.1.update) × (a.1.length ≢ b.1.length)

-- each row's interval is one of its length
abbrev pub AreWithin : List (ℕ × Version) → Type 0
AreWithin rows = (row : ℕ × Version) → Member row rows → (1 ≤ row.0) × (row.0 ≤ count_of row.1.length)

-- one row's interval isn't
abbrev pub IsOneOutside : List (ℕ × Version) → Type 0
IsOneOutside rows = (row : ℕ × Version) × Member row rows × ((row.0 < 1) ⊎ (count_of row.1.length < row.0))

-- the interval is one of the length of a row
abbrev pub HasIntervalOf : List (ℕ × Version) → ℕ → Type 0
HasIntervalOf rows interval = (row : ℕ × Version) × Member row rows × (1 ≤ interval) × (interval ≤ count_of row.1.length)

-- the length of the rows of an update, or nothing if there are none
abbrev pub IsLengthIn : List (ℕ × Version) → ℕ → Option ℕ → Type 0
IsLengthIn rows update None = (row : ℕ × Version) → Member row rows → row.1.update ≢ update
IsLengthIn rows update (Some minutes) =
    (row : ℕ × Version) × Member row rows × (row.1.update ≡ update) × (row.1.length ≡ minutes)

-- the rows fit a day with this unit
abbrev pub Fits : Option MeasureUnit → List (ℕ × Version) → Type 0
Fits None rows = rows ≡ []
Fits (Some unit) rows = OneLength rows × AreWithin rows

-- what rows that don't fit show
abbrev pub Misfits : Option MeasureUnit → List (ℕ × Version) → Type 0
Misfits None rows = (row : ℕ × Version) × Member row rows
Misfits (Some unit) rows = TwoLengths rows ⊎ IsOneOutside rows

-- the length and the unit are those of a row of the greatest update, or there are no rows
abbrev pub IsFormOfRows : Option (ℕ × MeasureUnit) → List (ℕ × Version) → Type 0
IsFormOfRows None rows = rows ≡ []
IsFormOfRows (Some form) rows =
    (row : ℕ × Version) × Member row rows × (row.1.length ≡ form.0)
    × ((other : ℕ × Version) → Member other rows → other.1.update ≤ row.1.update)

-- the unit of a form
abbrev pub unit_of : Option (ℕ × MeasureUnit) → Option MeasureUnit
unit_of None = None
unit_of (Some form) = Some form.1

-- no two rows have the same interval and update
abbrev pub OneEach : List (ℕ × Version) → Type 0
OneEach rows = (a b : ℕ × Version) → Member a rows → Member b rows → a.0 ≡ b.0 → a.1.update ≡ b.1.update → a ≡ b

-- It is a book with the same facts, or it is absent, and no lawful World has such a day.
pub record IsMade (said : BookValue) (made : Option BookValue) : Type 0 where
  pub some : IfSome made (λ book. (book.stream ≡ said.stream) × (book.day ≡ said.day) × (book_world book ≡ book_world said))
  pub none : IfNone made ((w : World) → IsLawful w → IsDay w said → ⊥)

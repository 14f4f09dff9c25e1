-- What queries of mds_daydetail show, and what their rows say. A shown row has no rowid before its columns.
use Rattle.std.specs.Prelude.{◌≡◌, ◌≤◌, ◌<◌, ◌+◌, ◌-◌, ◌^◌, ◌↔◌, ◌⊎◌, ℕ, List, [], ◌∷◌, ◌++◌, length, map, option_map, slice_get, true, All, IfSome, IsTrue, Some}
use Rattle.std.specs.List.{AllPairs}
use Rattle.std.specs.Ordering.{is_le, nat_cmp, ordering_then}
use Rattle.sqlite.specs.declared.types.Value.TheVariants.{Text}
use Rattle.sqlite_trees.specs.Tree.{Trees}
use Rattle.sqlite_value.specs.Order.{Row, column}
use Rattle.mds_names.specs.declared.stream.Stream.{Stream}
use Rattle.mds_terms.specs.Details.{DetailsValue, details_cmp, is_details}
use Rattle.mds_world.specs.Lists.{Member}
use Rattle.mds_keeper.specs.Content.{detail_on}
use Rattle.mds_keeper.specs.declared.additions.DetailDays.{DetailDays}
use Rattle.mds_tables.specs.Cells.{day_cells, detail_cells, number_cell, optional_cell}
use Rattle.mds_tables.specs.RowFacts.{details_from, natural_at, optional_at}
use Rattle.mds_tables.specs.Stores.{Begins, Selects}
use Rattle.mds_tables.specs.Tables.{daydetail_tree}
use Rattle.mds_tables.specs.Written.{IsDay, IsMoment}

-- one of the rows begins with these columns
abbrev pub HasRow : Trees → Row → Type 0
HasRow trees key = (row : Row) × Member row (trees daydetail_tree) × Begins key row

-- ---- the nearest day

-- What is shown of the nearest day up to one: nothing if no day up to it has a row. A row that says a day says the nearest one.
abbrev pub ShowsNearest : Stream → ℕ → Trees → List Row → Type 0
ShowsNearest s day trees [] = (of : ℕ) → of ≤ day → HasRow trees (day_cells s of) → ⊥
ShowsNearest s day trees (shown ∷ more) =
    (of : ℕ) → column shown 0 ≡ number_cell of
    → (of ≤ day) × HasRow trees (day_cells s of)
    × ((other : ℕ) → other ≤ day → HasRow trees (day_cells s other) → other ≤ of)

-- ---- the details of a day

-- the columns that are shown of them: the moment, and the five details
abbrev pub details_columns : List ℕ
details_columns = 4 ∷ 5 ∷ 6 ∷ 7 ∷ 8 ∷ 9 ∷ []

-- the details of a row, after its moment
abbrev pub shown_details : Row → DetailsValue
shown_details row = details_from row 1

-- A row that the store can have written: its moment isn't below 0, nor its next day below -1.
abbrev pub IsDetailRow : Row → Type 0
IsDetailRow row = (natural_at row 0 < 2 ^ 63) × IfSome (optional_at row 5) (λ day. day < 2 ^ 63)

-- a is no later than b, and at the same moment its details are no greater
abbrev pub IsBelow : Row → Row → Type 0
IsBelow a b =
    is_le (ordering_then (nat_cmp (natural_at a 0) (natural_at b 0)) (details_cmp (shown_details a) (shown_details b))) ≡ true

-- rows of later moments first, and at one moment those of greater details first
abbrev pub AreLatestFirst : List Row → Type 0
AreLatestFirst rows = AllPairs (λ a b. IsBelow b a) rows

-- all rows of a day, in that order if the store can have written them
abbrev pub ShowsDetails : Stream → ℕ → Trees → List Row → Type 0
ShowsDetails s day trees rows =
    Selects daydetail_tree (day_cells s day) details_columns trees rows × (All (λ row. IsDetailRow row) rows → AreLatestFirst rows)

-- the first row has these details
abbrev pub TellsFirst : List Row → DetailsValue → Type 0
TellsFirst [] details = ⊥
TellsFirst (row ∷ rows) details = shown_details row ≡ details

-- a row shows details that the store writes
pub record IsRowOf (row : Row) (seconds : ℕ) (details : DetailsValue) : Type 0 where
  pub cells : row
      ≡ number_cell seconds ∷ Text details.configuration ∷ Text details.register ∷ Text details.datastream ∷ Text details.meter
      ∷ optional_cell details.next ∷ []
  pub moment : IsMoment seconds
  pub lawful : IsTrue (is_details details)
  pub next : IfSome details.next IsDay

-- a row of details that the store writes
abbrev pub IsWritten : Row → Type 0
IsWritten row = (moment : ℕ) × (details : DetailsValue) × IsRowOf row moment details

-- the bytes of the texts of details
abbrev pub text_length : DetailsValue → ℕ
text_length d = length d.configuration + length d.register + length d.datastream + length d.meter

-- ---- the details of a range of days

-- the row begins with the stream, and a day from the first to the last
abbrev pub IsInRange : Stream → ℕ → ℕ → Row → Type 0
IsInRange s first last row = (day : ℕ) × (first ≤ day) × (day ≤ last) × Begins (day_cells s day) row

-- the columns that are shown of them: those of a day's details, and then the day
abbrev pub range_columns : List ℕ
range_columns = 4 ∷ 5 ∷ 6 ∷ 7 ∷ 8 ∷ 9 ∷ 3 ∷ []

-- the day of a row
abbrev pub shown_day : Row → ℕ
shown_day row = natural_at row 6

-- a is of an earlier day than b, or of the same day and no less
abbrev pub ComesFirst : Row → Row → Type 0
ComesFirst a b = (shown_day a ≤ shown_day b) × (shown_day a ≡ shown_day b → IsBelow b a)

-- rows of earlier days first, and those of one day latest first
abbrev pub AreByDay : List Row → Type 0
AreByDay rows = AllPairs (λ a b. ComesFirst a b) rows

-- all rows of a range of days, in that order if the store can have written them
abbrev pub ShowsRange : Stream → ℕ → ℕ → Trees → List Row → Type 0
ShowsRange s first last trees rows =
    ((shown : Row) → Member shown rows
    ↔ ((row : Row) × Member row (trees daydetail_tree) × IsInRange s first last row × (shown ≡ map (column row) range_columns)))
    × (All (λ row. IsDetailRow row) rows → AreByDay rows)

-- the last entry is of the day
abbrev pub EndsOn : ℕ → List (ℕ × DetailsValue) → Type 0
EndsOn day told = option_map (λ entry. entry.0) (slice_get told (length told - 1)) ≡ Some day

-- The details of a row are appended, unless the last entry is of its day.
abbrev pub TellsRow : List (ℕ × DetailsValue) → Row → List (ℕ × DetailsValue) → Type 0
TellsRow old row new =
    (EndsOn (shown_day row) old × (new ≡ old))
    ⊎ ((EndsOn (shown_day row) old → ⊥) × (new ≡ old ++ (shown_day row, shown_details row) ∷ []))

-- One of the rows is of the entry's day, none of that day is above it, and it has the entry's details.
abbrev pub IsTold : List Row → ℕ × DetailsValue → Type 0
IsTold rows entry =
    (row : Row) × Member row rows × (shown_day row ≡ entry.0) × (shown_details row ≡ entry.1)
    × ((other : Row) → Member other rows → shown_day other ≡ entry.0 → IsBelow other row)

-- The days of the rows, ascending, each once.
pub record TellsDays (rows : List Row) (told : List (ℕ × DetailsValue)) : Type 0 where
  pub each : (entry : ℕ × DetailsValue) → Member entry told → IsTold rows entry
  pub all : (row : Row) → Member row rows → Member (shown_day row) (map (λ entry. entry.0) told)
  pub ascending : AllPairs (λ a b. a.0 < b.0) told

-- ---- the days that have some details

-- what is asked for them: the details, with the first and the last day of a range
abbrev pub days_cells : DetailDays → ℕ → ℕ → Row
days_cells d first last =
    Text d.stream.nmi ∷ Text d.stream.suffix ∷ number_cell first ∷ number_cell last ∷ number_cell d.moment
    ∷ Text d.details.configuration ∷ Text d.details.register ∷ Text d.details.datastream ∷ Text d.details.meter
    ∷ optional_cell d.details.next ∷ []

-- each day of the range that has a row of the details, alone in a row
abbrev pub ShowsDaysWith : DetailDays → ℕ → ℕ → Trees → List Row → Type 0
ShowsDaysWith details first last trees rows =
    (shown : Row) → Member shown rows
    ↔ ((day : ℕ) × (first ≤ day) × (day ≤ last) × HasRow trees (detail_cells (detail_on details day)) × (shown ≡ number_cell day ∷ []))

-- the days of a list that no row says are left
abbrev pub AreLeft : List ℕ → List Row → List ℕ → Type 0
AreLeft old rows left =
    (day : ℕ) → Member day left ↔ (Member day old × ((row : Row) → Member row rows → column row 0 ≡ number_cell day → ⊥))

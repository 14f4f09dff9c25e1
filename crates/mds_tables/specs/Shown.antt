-- What rows say that queries show. A shown row has all columns of its table, and no rowid before them.
use Rattle.std.specs.Prelude.{◌≡◌, ◌↔◌, ℕ, ℤ, List, [], ◌∷◌, false, true, Option, Some, None, ◌==◌, if◌then◌else◌}
use Rattle.std.specs.Ordering.{is_lt}
use Rattle.sqlite.specs.declared.types.Value.TheVariants.{Null}
use Rattle.sqlite_trees.specs.Tree.{Trees}
use Rattle.sqlite_value.specs.Keys.{by_key}
use Rattle.sqlite_value.specs.Order.{Row, column}
use Rattle.sqlite_value.specs.declared.keys.Collation.TheVariants.{Binary}
use Rattle.sqlite_value.specs.declared.keys.Key.{Key as SortKey}
use Rattle.mds_marks.specs.Quality.{QualityValue, null}
use Rattle.mds_marks.specs.Reading.{ReadingValue}
use Rattle.mds_terms.specs.Event.{EventValue}
use Rattle.mds_world.specs.declared.facts.Key.{Key}
use Rattle.mds_world.specs.Facts.{key_at}
use Rattle.mds_world.specs.Facts.Fact.{EventIs, VersionIs}
use Rattle.mds_world.specs.Lists.{Member}
use Rattle.mds_keeper.specs.declared.day_book.Version.{Version}
use Rattle.mds_tables.specs.Cells.{number_cell}
use Rattle.mds_tables.specs.RowFacts.{event_fact, int_at, lengthless, natural_at, optional_at, quality_named, reading_in, stream_in, text_at, version_fact}
use Rattle.mds_tables.specs.Stores.{Begins}

-- the key of a version, given its length
abbrev pub shown_key : ℕ → Row → Key
shown_key minutes row =
    key_at (stream_in (Null ∷ row)) (natural_at row 2) minutes (natural_at row 3) (natural_at row 4)

-- its reading
abbrev pub shown_reading : Row → ReadingValue
shown_reading row =
    reading_in (quality_named (text_at row 5)) (optional_at row 6) (text_at row 7) (int_at row 8)

-- the value that an amount means, under a quality
abbrev pub amount_in : QualityValue → ℤ → Option ℤ
amount_in quality amount = if quality.flag == null then None else Some amount

-- the version of an interval says what the row does, and has a length, which the row doesn't say
abbrev pub SaysVersion : ℕ → Row → ℕ × Version → Type 0
SaysVersion minutes row version =
    (key : Key) × (version_fact (Null ∷ row) ≡ VersionIs (lengthless key) version.1.reading)
    × (key.interval ≡ version.0) × (key.update ≡ version.1.update) × (version.1.length ≡ minutes)

-- each row's version, given its length, in the order of the rows
abbrev pub AreVersionsIn : ℕ → List Row → List (ℕ × Version) → Type 0
AreVersionsIn minutes [] [] = Unit {0}
AreVersionsIn minutes (row ∷ rows) (version ∷ versions) = SaysVersion minutes row version × AreVersionsIn minutes rows versions
AreVersionsIn minutes [] (version ∷ versions) = ⊥
AreVersionsIn minutes (row ∷ rows) [] = ⊥

-- the two orders of a column
abbrev pub rising : SortKey
rising = record { collation = Binary; descending = false }

abbrev pub falling : SortKey
falling = record { collation = Binary; descending = true }

-- The first row, in the order of one column, among the rows of a tree that begin with these. Its value in that column is shown. If
-- there is no such row, nothing is shown.
abbrev pub SelectsFirst : SortKey → ℕ → Row → ℕ → Trees → List Row → Type 0
SelectsFirst by tree key at trees [] = (row : Row) → Member row (trees tree) → Begins key row → ⊥
SelectsFirst by tree key at trees (shown ∷ more) =
    ((row : Row) × Member row (trees tree) × Begins key row × (shown ≡ column row at ∷ []))
    × ((row : Row) → Member row (trees tree) → Begins key row → is_lt (by_key by (column row at) (column shown 0)) ≡ false)

-- the day that the first row says, if there is one
abbrev pub SaysDay : List Row → Option ℕ → Type 0
SaysDay rows None = rows ≡ []
SaysDay rows (Some day) = (row : Row) × (later : List Row) × (rows ≡ row ∷ later) × (column row 0 ≡ number_cell day)

-- the events of rows, in any order
abbrev pub AreEventsIn : List Row → List EventValue → Type 0
AreEventsIn rows events =
    (event : EventValue) → Member event events
    ↔ ((row : Row) × Member row rows × (event_fact (Null ∷ row) ≡ EventIs event))

-- The rows of a book, in whatever form they are kept.
use Rattle.std.specs.Prelude.{◌≡◌, ◌<◌, ℕ, List, length, Option, Some, None}
use Rattle.mds_calendar.specs.Length.{count_of}
use Rattle.mds_keeper.specs.Content.{whole_rows}
use Rattle.mds_keeper.specs.declared.day_book.Version.{Version}
use Rattle.mds_keeper.specs.declared.book_rows.BookRows.{BookRows}
use Rattle.mds_keeper.specs.declared.book_rows.BookRows.TheVariants.{Own, Shared, Whole as KeptWhole}
use Rattle.mds_keeper.specs.declared.book_rows.LentRows.{LentRows}
use Rattle.mds_keeper.specs.declared.book_rows.LentRows.TheVariants.{Each, Whole}

abbrev pub kept_rows : BookRows → List (ℕ × Version)
kept_rows (Own rows) = rows.items
kept_rows (Shared rows) = rows.value.items
kept_rows (KeptWhole minutes update readings) = whole_rows minutes update 1 readings.value

-- the length and the number of readings that are kept as `DayReadings`, if they are
abbrev pub kept_whole : BookRows → Option (ℕ × ℕ)
kept_whole (Own rows) = None
kept_whole (Shared rows) = None
kept_whole (KeptWhole minutes update readings) = Some (minutes, length readings.value)

abbrev pub lent_rows : LentRows → List (ℕ × Version)
lent_rows (Each rows) = rows.now
lent_rows (Whole minutes update readings) = whole_rows minutes update 1 readings.now

-- the length and the number of readings that are lent as `DayReadings`, if they are
abbrev pub lent_whole : LentRows → Option (ℕ × ℕ)
lent_whole (Each rows) = None
lent_whole (Whole minutes update readings) = Some (minutes, length readings.now)

-- readings kept as `DayReadings` are one for each interval of their length
abbrev pub AreWhole : Option (ℕ × ℕ) → Type 0
AreWhole None = Unit {0}
AreWhole (Some whole) = (whole.1 ≡ count_of whole.0) × (0 < whole.1)

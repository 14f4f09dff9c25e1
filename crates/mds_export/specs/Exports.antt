-- The rows of the text of a selection (profile). First comes a 100. A 200 comes before the first day of a stream. It also
-- comes before each day whose length, unit or details differ from those of the day before. Each day has a 300, and the 400s
-- of the fewest runs that hold its intervals, none if one run holds all. A 900 comes last.
use Rattle.std.specs.Prelude.{◌≡◌, if◌then◌else◌, List, [], ◌∷◌, ◌++◌, length, map, Option, Some, None, ℕ}
use Rattle.mds_marks.specs.Reading.{ReadingValue}
use Rattle.mds_marks.specs.declared.mark.Mark.{Mark}
use Rattle.mds_runs.specs.Runs.{AreRuns, IsFull, IsLeast, spread_of}
use Rattle.mds_runs.specs.declared.cover.Run.{Run}
use Rattle.mds_statements.specs.Statements.{HeaderValue}
use Rattle.mds_export.specs.Rows.{IsRowText, RowValue, HeaderRow, DetailsRow, DayRow, RunRow, EndRow}
use Rattle.mds_export.specs.Placed.{PlacedDay, is_governed, placed_days}
use Rattle.mds_statements.specs.declared.selected.SelectedDay.{SelectedDay}
use Rattle.mds_statements.specs.declared.selected.SelectedStream.{SelectedStream}

-- a list consists of parts, one for each of these things, in their order
abbrev pub AreInTurn : {T A : Type 0} → (T → List A → Type 0) → List T → List A → Type 0
AreInTurn Is [] all = all ≡ []
AreInTurn Is (thing ∷ things) all =
    (part rest : List _) × (all ≡ part ++ rest) × Is thing part × AreInTurn Is things rest

-- the marks of readings
abbrev pub marks_of : List ReadingValue → List Mark
marks_of readings = map (λ reading. reading.mark) readings

-- the fewest runs that hold each interval of a day, with the interval's mark from this list
pub record AreFewest (marks : List Mark) (runs : List Run) : Type 0 where
  pub lawful : AreRuns (length marks) runs
  pub full : IsFull (length marks) runs
  pub spread : (default : Mark) → spread_of (length marks) runs default ≡ marks
  pub least : IsLeast (length marks) runs

-- the mark of the 300 of a day with these runs: that of a run that holds the whole day, or none for several runs
abbrev pub mark_of_all : List Run → Option Mark
mark_of_all (run ∷ []) = Some run.mark
mark_of_all runs = None

-- the 400 of a run
abbrev pub run_row : Run → RowValue
run_row run = RunRow run.first run.last run.mark

-- the day's 400s: none if one run holds the whole day
abbrev pub run_rows : List Run → List RowValue
run_rows (run ∷ []) = []
run_rows runs = map run_row runs

-- the 200 of a day
abbrev pub details_row : PlacedDay → RowValue
details_row placed =
    DetailsRow placed.selected.stream placed.day.details placed.day.unit placed.day.length

-- it comes before a day that the 200 of the day before doesn't govern
abbrev pub details_rows : PlacedDay → List RowValue
details_rows placed = if is_governed placed.before placed.day then [] else details_row placed ∷ []

-- the 300 of a day, with one mark or none
abbrev pub day_row : SelectedDay → Option Mark → RowValue
day_row day mark = DayRow day.date day.readings mark day.update

-- the rows of a day
abbrev pub AreDayRows : PlacedDay → List RowValue → Type 0
AreDayRows placed rows =
    (runs : List Run) × AreFewest (marks_of placed.day.readings) runs
    × (rows ≡ details_rows placed ++ day_row placed.day (mark_of_all runs) ∷ run_rows runs)

-- the 100
abbrev pub header_row : HeaderValue → RowValue
header_row header = HeaderRow header.moment header.sender header.receiver

-- the text of these streams under a header: its lines are those of these rows
pub record IsExport (header : HeaderValue) (streams : List SelectedStream) (text : List ℕ) : Type 0 where
  pub rows : List RowValue
  pub of_days : AreInTurn AreDayRows (placed_days streams) rows
  pub lines : AreInTurn IsRowText (header_row header ∷ rows ++ EndRow ∷ []) text

-- The private steps of writing a selection.
use Rattle.std.specs.Prelude.{ℕ, List, [], ◌∷◌, ◌++◌}
use Rattle.mds_runs.specs.declared.cover.Run.{Run}
use Rattle.mds_export.specs.ReadBack.{IsLawful}
use Rattle.mds_export.specs.Rows.{IsRowText, RowValue, EndRow}
use Rattle.mds_statements.specs.Statements.{HeaderValue}
use Rattle.mds_export.specs.Placed.{PlacedDay, placed_days}
use Rattle.mds_export.specs.Exports.{AreDayRows, AreFewest, AreInTurn, day_row, header_row, mark_of_all, marks_of, run_rows}
use Rattle.mds_statements.specs.declared.selected.SelectedDay.{SelectedDay}
use Rattle.mds_statements.specs.declared.selected.SelectedStream.{SelectedStream}

-- the line of a row whose parts are lawful
abbrev pub IsWritten : RowValue → List ℕ → Type 0
IsWritten row text = IsRowText row text × IsLawful row

-- the rows of a day without its 200
abbrev pub HasDayText : SelectedDay → List ℕ → Type 0
HasDayText day text =
    (runs : List Run) × AreFewest (marks_of day.readings) runs
    × AreInTurn IsWritten (day_row day (mark_of_all runs) ∷ run_rows runs) text

-- the text of days that were written
pub record AreWritten (days : List PlacedDay) (text : List ℕ) : Type 0 where
  pub rows : List RowValue
  pub of_days : AreInTurn AreDayRows days rows
  pub lines : AreInTurn IsWritten rows text

-- the whole text that was written
pub record IsWrittenExport (header : HeaderValue) (streams : List SelectedStream) (text : List ℕ) : Type 0 where
  pub rows : List RowValue
  pub of_days : AreInTurn AreDayRows (placed_days streams) rows
  pub lines : AreInTurn IsWritten (header_row header ∷ rows ++ EndRow ∷ []) text

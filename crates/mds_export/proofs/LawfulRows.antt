-- The rows of a lawful selection are lawful.
use Rattle.std.proofs.Common.{◌≡◌, ℕ, zero, suc, Bool, true, false, ◌&&◌, cond, List, [], ◌∷◌, ◌++◌, map, slice_get, Option, Some, None, IsTrue, sym, ap, subst, ◌∙◌, arith}
use Rattle.std.specs.List.{All}
use Rattle.std.proofs.lemmas.Bool.{and_parts}
use Rattle.std.proofs.lemmas.List.Elements.{All-append, All-cons, All-head, All-nil, All-tail}
use Rattle.mds_marks.specs.Mark.{is_mark}
use Rattle.mds_marks.specs.Reading.{ReadingValue, is_lawful, is_reading, is_value}
use Rattle.mds_marks.specs.declared.mark.Mark.{Mark}
use Rattle.mds_runs.specs.declared.cover.Run.{Run}
use Rattle.mds_marks.specs.Mark.{bare_null}
use Rattle.mds_export.specs.ReadBack.{IsLawful}
use Rattle.mds_export.specs.Rows.{IsRowText, RowValue, EndRow}
use Rattle.mds_statements.specs.Statements.{HeaderValue}
use Rattle.mds_export.specs.Lawful.{AreLawful, IsLawfulDay, IsLawfulStream}
use Rattle.mds_statements.specs.Selected.{AreOrderly, days_of}
use Rattle.mds_export.specs.Placed.{PlacedDay, is_governed, placed_after, placed_days}
use Rattle.mds_export.specs.Exports.{AreDayRows, AreInTurn, IsExport, day_row, details_row, details_rows, header_row, mark_of_all, marks_of, run_row, run_rows}
use Rattle.mds_export.specs.Shows.{Shows}
use Rattle.mds_export.specs.WriterSteps.{IsWritten}
use Rattle.mds_statements.specs.declared.selected.SelectedDay.{SelectedDay}
use Rattle.mds_statements.specs.declared.selected.SelectedStream.{SelectedStream}
use Rattle.mds_statements.proofs.SelectedTests.{All-split}
use Rattle.mds_export.proofs.Bounds.{AreLawfulReadings}
use Rattle.mds_export.proofs.InTurn.{turn_split}
use Rattle.mds_export.proofs.Spelled.{AreSpelled, spelled_fewest, spelled_own, spelled_rest}
use Rattle.mds_export.proofs.Told.{export_told}

-- the mark of a lawful reading is one
mark_at_place : (readings : List ReadingValue) (k : ℕ) (mark : Mark) → AreLawfulReadings readings → slice_get (marks_of readings) k ≡ Some mark
    → is_mark mark ≡ true
mark_at_place [] k mark h is = absurd (cc)
mark_at_place (reading ∷ readings) zero mark h is =
    let same : reading.mark ≡ mark = cc in
    let flag = reading.mark.quality.flag in
    let here = All-head (λ r. IsTrue (is_lawful r)) reading readings h in
    let parts = and_parts (is_mark reading.mark && is_value reading.value) (is_reading flag reading.value) here in
    ap is_mark (sym same) ∙ (and_parts (is_mark reading.mark) (is_value reading.value) parts.0).0
mark_at_place (reading ∷ readings) (suc k) mark h is = mark_at_place readings k mark (All-tail (λ r. IsTrue (is_lawful r)) reading readings h) is

-- and so are the marks of its runs
lawful_runs : (readings : List ReadingValue) (default : Mark) (interval : ℕ) (runs : List Run) → AreSpelled (marks_of readings) default interval runs
    → AreLawfulReadings readings → All IsLawful (map run_row runs)
lawful_runs readings default interval [] s h = All-nil IsLawful
lawful_runs readings default interval (run ∷ runs) s h =
    All-cons IsLawful (run_row run) (map run_row runs)
    (mark_at_place readings interval run.mark h
    (spelled_own (marks_of readings) default interval run runs s interval (omega arith) s.meets.1))
    (lawful_runs readings default run.last runs (spelled_rest (marks_of readings) default interval run runs s) h)

lawful_day : (day : SelectedDay) (runs : List Run) → AreLawfulReadings day.readings → All IsLawful (map run_row runs)
    → All IsLawful (day_row day (mark_of_all runs) ∷ run_rows runs)
lawful_day day [] h marks = All-cons IsLawful (day_row day None) [] (h, tt) (All-nil IsLawful)
lawful_day day (run ∷ []) h marks =
    All-cons IsLawful (day_row day (Some run.mark)) [] (h, All-head IsLawful (run_row run) [] marks) (All-nil IsLawful)
lawful_day day (run ∷ next ∷ runs) h marks = All-cons IsLawful (day_row day None) (map run_row (run ∷ next ∷ runs)) (h, tt) marks

lawful_details : (placed : PlacedDay) → IsLawfulStream placed.selected → IsLawfulDay placed.day → All IsLawful (details_rows placed)
lawful_details placed s d = at (is_governed placed.before placed.day) where
  at : (b : Bool) → All IsLawful (cond b [] (details_row placed ∷ []))
  at true = All-nil IsLawful
  at false = All-cons IsLawful (details_row placed) [] (s.0, s.1, d.1, d.0) (All-nil IsLawful)

lawful_placed : (placed : PlacedDay) (rows : List RowValue) → AreDayRows placed rows → IsLawfulStream placed.selected → IsLawfulDay placed.day
    → All IsLawful rows
lawful_placed placed rows h s d =
    let readings = placed.day.readings in
    let spelled = spelled_fewest (marks_of readings) bare_null h.0 h.1 in
    subst (All IsLawful) (sym h.2) (All-append IsLawful (details_rows placed) (day_row placed.day (mark_of_all h.0) ∷ run_rows h.0)
    (lawful_details placed s d) (lawful_day placed.day h.0 d.2 (lawful_runs readings bare_null 0 h.0 spelled d.2)))

lawful_days : (selected : SelectedStream) (before : Option SelectedDay) (days : List SelectedDay) (rows : List RowValue)
    → AreInTurn AreDayRows (placed_after selected before days) rows → IsLawfulStream selected → All IsLawfulDay days → All IsLawful rows
lawful_days selected before [] rows turn s d = subst (All IsLawful) (sym turn) (All-nil IsLawful)
lawful_days selected before (day ∷ days) rows turn s d =
    let placed : PlacedDay = record { selected = selected; before = before; day = day } in
    subst (All IsLawful) (sym turn.2) (All-append IsLawful turn.0 turn.1
    (lawful_placed placed turn.0 turn.3 s (All-head IsLawfulDay day days d))
    (lawful_days selected (Some day) days turn.1 turn.4 s (All-tail IsLawfulDay day days d)))

lawful_streams : (streams : List SelectedStream) (rows : List RowValue) → AreInTurn AreDayRows (placed_days streams) rows → All IsLawfulStream streams
    → All IsLawfulDay (days_of streams) → All IsLawful rows
lawful_streams [] rows turn s d = subst (All IsLawful) (sym turn) (All-nil IsLawful)
lawful_streams (selected ∷ streams) rows turn s d =
    let days = selected.days.items in
    let parts = turn_split AreDayRows (placed_after selected None days) (placed_days streams) rows turn in
    let both = All-split IsLawfulDay days (days_of streams) d in
    subst (All IsLawful) (sym parts.2) (All-append IsLawful parts.0 parts.1
    (lawful_days selected None days parts.0 parts.3 (All-head IsLawfulStream selected streams s) both.0)
    (lawful_streams streams parts.1 parts.4 (All-tail IsLawfulStream selected streams s) both.1))

written_rows : (rows : List RowValue) (text : List ℕ) → AreInTurn IsRowText rows text → All IsLawful rows → AreInTurn IsWritten rows text
written_rows [] text h lawful = h
written_rows (row ∷ rows) text h lawful =
    (h.0, h.1, h.2, (h.3, All-head IsLawful row rows lawful), written_rows rows h.1 h.4 (All-tail IsLawful row rows lawful))

-- so that a text of the form shows the selection
pub form_shown : (header : HeaderValue) (streams : List SelectedStream) (text : List ℕ) → AreLawful header streams → AreOrderly streams
    → IsExport header streams text → Shows header streams text
form_shown header streams text lawful orderly e =
    let all : All IsLawful (header_row header ∷ e.rows ++ EndRow ∷ []) =
    All-cons IsLawful (header_row header) (e.rows ++ EndRow ∷ []) (lawful.sender, lawful.receiver)
    (All-append IsLawful e.rows (EndRow ∷ []) (lawful_streams streams e.rows e.of_days lawful.named lawful.readings)
    (All-cons IsLawful EndRow [] tt (All-nil IsLawful))) in
    let told = export_told header streams e.rows text e.of_days (written_rows (header_row header ∷ e.rows ++ EndRow ∷ []) text e.lines all) orderly.whole orderly.few in
    record { form = e; faultless = told.0; stated = told.1 }

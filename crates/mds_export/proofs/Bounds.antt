-- The rows of the days of a selection are within the bounds of rows that read back, and there are few of them.
use Rattle.std.proofs.Common.{◌≡◌, ◌≢◌, ◌≤◌, ◌*◌, ℕ, zero, suc, Bool, true, false, ◌&&◌, cond, eqb, List, [], ◌∷◌, ◌++◌, length, map, slice_get, bytes_eq, Option, Some, None, IfSome, IsTrue, refl, sym, ap, subst, ◌∙◌, arith}
use Rattle.std.specs.List.{All}
use Rattle.std.specs.Ordering.{eq_by_cmp}
use Rattle.std.proofs.lemmas.Bool.{and_parts, eqb-true}
use Rattle.std.proofs.lemmas.List.{length-append, length-map}
use Rattle.std.proofs.lemmas.List.Elements.{All-append, All-cons, All-head, All-nil, All-tail}
use Rattle.std.proofs.lemmas.Slice.Eq.{bytes_eq-Decides}
use Rattle.mds_quantity.specs.Unit.{unit_of, unit_text}
use Rattle.mds_quantity.specs.declared.unit.Unit.{Unit as MeasureUnit}
use Rattle.mds_calendar.specs.Length.{is_length}
use Rattle.mds_terms.specs.Details.{details_cmp}
use Rattle.mds_terms.proofs.TermOrder.{details_decided}
use Rattle.mds_marks.specs.Mark.{is_mark}
use Rattle.mds_marks.specs.Quality.{variable}
use Rattle.mds_marks.specs.Reading.{ReadingValue, is_lawful, is_reading, is_value}
use Rattle.mds_marks.specs.declared.mark.Mark.{Mark}
use Rattle.mds_runs.specs.declared.cover.Run.{Run}
use Rattle.mds_runs.proofs.RunFacts.{Meets-le}
use Rattle.mds_export.specs.ReadBack.{IsInBounds, IsLawful}
use Rattle.mds_export.specs.Rows.{RowValue}
use Rattle.mds_export.proofs.RowTexts.{unit_reads}
use Rattle.mds_statements.specs.Selected.{IsWhole, days_of}
use Rattle.mds_export.specs.Placed.{PlacedDay, is_governed, placed_after, placed_days}
use Rattle.mds_export.specs.Exports.{AreDayRows, AreFewest, AreInTurn, day_row, details_row, details_rows, mark_of_all, marks_of, run_row, run_rows}
use Rattle.mds_statements.specs.declared.selected.SelectedDay.{SelectedDay}
use Rattle.mds_statements.specs.declared.selected.SelectedStream.{SelectedStream}
use Rattle.mds_statements.proofs.SelectedTests.{All-split}
use Rattle.mds_export.proofs.Counts.{count_small}
use Rattle.mds_export.proofs.InTurn.{turn_split}
use Rattle.mds_export.proofs.Spelled.{AreSpelled, few_runs, spelled_fewest, spelled_own, spelled_rest}

-- each reading is lawful
abbrev pub AreLawfulReadings : List ReadingValue → Type 0
AreLawfulReadings readings = All (λ reading. IsTrue (is_lawful reading)) readings

-- the mark of a lawful reading isn't variable
pub not_variable : (reading : ReadingValue) → is_lawful reading ≡ true → reading.mark.quality.flag ≢ variable
not_variable reading h e =
    let parts = and_parts (is_mark reading.mark && is_value reading.value) (is_reading reading.mark.quality.flag reading.value) h in
    let plain : is_reading reading.mark.quality.flag reading.value ≡ false =
    ap (λ f. is_reading f reading.value) e in cc

pub not_variable_at : (readings : List ReadingValue) (k : ℕ) (mark : Mark) → AreLawfulReadings readings
    → slice_get (marks_of readings) k ≡ Some mark → mark.quality.flag ≢ variable
not_variable_at [] k mark h is = absurd (cc)
not_variable_at (reading ∷ readings) zero mark h is =
    let same : reading.mark ≡ mark = cc in
    subst (λ (m : Mark). m.quality.flag ≢ variable) same
    (not_variable reading (All-head (λ r. IsTrue (is_lawful r)) reading readings h))
not_variable_at (reading ∷ readings) (suc k) mark h is =
    not_variable_at readings k mark (All-tail (λ r. IsTrue (is_lawful r)) reading readings h) is

-- the runs of a day
runs_bounded : (readings : List ReadingValue) (default : Mark) (interval : ℕ) (runs : List Run)
    → AreSpelled (marks_of readings) default interval runs → AreLawfulReadings readings → length readings ≤ 288
    → All IsInBounds (map run_row runs)
runs_bounded readings default interval [] s lawful few = All-nil IsInBounds
runs_bounded readings default interval (run ∷ runs) s lawful few =
    let size = length-map readings (λ (r : ReadingValue). r.mark) in
    let within = Meets-le run.last runs (length (marks_of readings)) s.meets.2 in
    All-cons IsInBounds (run_row run) (map run_row runs) (
      omega (arith, s.meets.0, s.meets.1),
      omega arith,
      not_variable_at readings interval run.mark lawful
          (spelled_own (marks_of readings) default interval run runs s interval (omega arith) s.meets.1),
    ) (runs_bounded readings default run.last runs (spelled_rest (marks_of readings) default interval run runs s) lawful few)

run_rows_bounded : (runs : List Run) (count : ℕ) → All IsInBounds (map run_row runs) → length runs ≤ count
    → All IsInBounds (run_rows runs) × (length (run_rows runs) ≤ count)
run_rows_bounded [] count h few = (h, omega arith)
run_rows_bounded (run ∷ []) count h few = (All-nil IsInBounds, omega arith)
run_rows_bounded (run ∷ next ∷ runs) count h few = (h, omega (arith, length-map runs run_row))

day_bounded : (day : SelectedDay) (runs : List Run) (default : Mark) → AreFewest (marks_of day.readings) runs
    → AreLawfulReadings day.readings → length day.readings ≤ 288
    → All IsInBounds (day_row day (mark_of_all runs) ∷ run_rows runs) × (length (run_rows runs) ≤ 288)
day_bounded day runs default fewest lawful few =
    let s = spelled_fewest (marks_of day.readings) default runs fewest in
    let size = length-map day.readings (λ (r : ReadingValue). r.mark) in
    let all = run_rows_bounded runs 288 (runs_bounded day.readings default 0 runs s lawful few)
    (omega (arith, few_runs 0 runs (length (marks_of day.readings)) s.meets)) in
    (All-cons IsInBounds (day_row day (mark_of_all runs)) (run_rows runs) few all.0, all.1)

-- ---- a day that the 200 of the day before it governs

one_unit : (a b : MeasureUnit) → unit_text a ≡ unit_text b → a ≡ b
one_unit a b e =
    let both : Some a ≡ Some b = sym (unit_reads a) ∙ ap unit_of e ∙ unit_reads b in cc

pub governed_same : (before day : SelectedDay) → is_governed (Some before) day ≡ true
    → (before.length ≡ day.length) × (before.unit ≡ day.unit) × (before.details ≡ day.details)
governed_same before day e =
    let length = eqb before.length day.length in
    let unit = bytes_eq (unit_text before.unit) (unit_text day.unit) in
    let parts = and_parts (length && unit) (eq_by_cmp details_cmp before.details day.details) e in
    let form = and_parts length unit parts.0 in (
      eqb-true before.length day.length form.0,
      one_unit before.unit day.unit ((bytes_eq-Decides (unit_text before.unit) (unit_text day.unit)).0 form.1),
      (details_decided before.details day.details).0 parts.1,
    )

-- the length of a day before it is that of an interval
abbrev pub IsMeasured : Option SelectedDay → Type 0
IsMeasured before = IfSome before (λ day. is_length day.length ≡ true)

pub length_known : (placed : PlacedDay) → IsMeasured placed.before → All IsLawful (details_rows placed)
    → is_length placed.day.length ≡ true
length_known placed known lawful = at (is_governed placed.before placed.day) refl lawful where
  governs : (before : Option SelectedDay) → IsMeasured before → is_governed before placed.day ≡ true → is_length placed.day.length ≡ true
  governs None h e = absurd (cc)
  governs (Some before) h e = ap is_length (sym (governed_same before placed.day e).0) ∙ h

  at : (b : Bool) → is_governed placed.before placed.day ≡ b → All IsLawful (cond b [] (details_row placed ∷ []))
      → is_length placed.day.length ≡ true
  at true e h = governs placed.before known e
  at false e h = (All-head IsLawful (details_row placed) [] h).3

details_bounded : (placed : PlacedDay) → All IsInBounds (details_rows placed) × (length (details_rows placed) ≤ 1)
details_bounded placed = at (is_governed placed.before placed.day) where
  at : (b : Bool) → All IsInBounds (cond b [] (details_row placed ∷ [])) × (length (cond b [] (details_row placed ∷ [])) ≤ 1)
  at true = (All-nil IsInBounds, omega arith)
  at false = (All-cons IsInBounds (details_row placed) [] tt (All-nil IsInBounds), omega arith)

-- ---- the rows of days

-- what is known of the rows of a day
pub record AreKnownRows (placed : PlacedDay) (rows : List RowValue) (runs : List Run) : Type 0 where
  pub is_length : is_length placed.day.length ≡ true
  pub readings : AreLawfulReadings placed.day.readings
  pub bounded : All IsInBounds rows
  pub few : length rows ≤ 290

pub known_rows : (placed : PlacedDay) (rows : List RowValue) (runs : List Run) (default : Mark) → AreFewest (marks_of placed.day.readings) runs
    → rows ≡ details_rows placed ++ day_row placed.day (mark_of_all runs) ∷ run_rows runs
    → All IsLawful rows → IsMeasured placed.before → IsWhole placed.day → AreKnownRows placed rows runs
known_rows placed rows runs default fewest e lawful known whole =
    let last = day_row placed.day (mark_of_all runs) ∷ run_rows runs in
    let parts = All-split IsLawful (details_rows placed) last (subst (All IsLawful) e lawful) in
    let length_is = length_known placed known parts.0 in
    let readings = (All-head IsLawful (day_row placed.day (mark_of_all runs)) (run_rows runs) parts.1).0 in
    let day = day_bounded placed.day runs default fewest readings (omega (arith, whole, count_small placed.day.length length_is)) in
    let details = details_bounded placed in
    record {
      is_length = length_is;
      readings = readings;
      bounded = subst (All IsInBounds) (sym e) (All-append IsInBounds (details_rows placed) last details.0 day.0);
      few = omega (arith, ap length e, length-append (details_rows placed) last, details.1, day.1);
    }

pub days_bounded : (selected : SelectedStream) (before : Option SelectedDay) (days : List SelectedDay) (rows : List RowValue) (default : Mark)
    → AreInTurn AreDayRows (placed_after selected before days) rows → All IsLawful rows → IsMeasured before → All IsWhole days
    → All IsInBounds rows × (length rows ≤ 290 * length days)
days_bounded selected before [] rows default turn lawful known whole =
    (subst (All IsInBounds) (sym turn) (All-nil IsInBounds), omega (arith, ap length turn))
days_bounded selected before (day ∷ days) rows default turn lawful known whole =
    let placed : PlacedDay = record { selected = selected; before = before; day = day } in
    let both = All-split IsLawful turn.0 turn.1 (subst (All IsLawful) turn.2 lawful) in
    let here = known_rows placed turn.0 turn.3.0 default turn.3.1 turn.3.2 both.0 known (All-head IsWhole day days whole) in
    let rest = days_bounded selected (Some day) days turn.1 default turn.4 both.1 here.is_length (All-tail IsWhole day days whole) in (
      subst (All IsInBounds) (sym turn.2) (All-append IsInBounds turn.0 turn.1 here.bounded rest.0),
      omega (arith, ap length turn.2, length-append turn.0 turn.1, here.few, rest.1),
    )

pub streams_bounded : (streams : List SelectedStream) (rows : List RowValue) (default : Mark) → AreInTurn AreDayRows (placed_days streams) rows
    → All IsLawful rows → All IsWhole (days_of streams) → All IsInBounds rows × (length rows ≤ 290 * length (days_of streams))
streams_bounded [] rows default turn lawful whole =
    (subst (All IsInBounds) (sym turn) (All-nil IsInBounds), omega (arith, ap length turn))
streams_bounded (selected ∷ streams) rows default turn lawful whole =
    let days = selected.days.items in
    let parts = turn_split AreDayRows (placed_after selected None days) (placed_days streams) rows turn in
    let both = All-split IsLawful parts.0 parts.1 (subst (All IsLawful) parts.2 lawful) in
    let wholes = All-split IsWhole days (days_of streams) whole in
    let here = days_bounded selected None days parts.0 default parts.3 both.0 tt wholes.0 in
    let rest = streams_bounded streams parts.1 default parts.4 both.1 wholes.1 in (
      subst (All IsInBounds) (sym parts.2) (All-append IsInBounds parts.0 parts.1 here.0 rest.0),
      omega (arith, ap length parts.2, length-append parts.0 parts.1, here.1, rest.1, length-append days (days_of streams)),
    )

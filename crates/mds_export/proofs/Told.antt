-- What the text of a selection states, day by day.
use Rattle.std.proofs.Common.{◌≡◌, ◌≢◌, ◌≤◌, ◌+◌, ◌*◌, ℕ, Bool, true, false, not, ◌&&◌, cond, eqb, List, [], ◌∷◌, ◌++◌, length, map, Option, Some, None, IfSome, refl, sym, ap, subst, ◌∙◌, arith, append_assoc}
use Rattle.std.specs.List.{All, flat_map}
use Rattle.std.specs.Option.{option_map}
use Rattle.std.proofs.lemmas.Bool.Decides.{nat_tests}
use Rattle.std.proofs.lemmas.Grind.{flat_map-append}
use Rattle.std.proofs.lemmas.List.{append-nil, length-append, length_push, length-map}
use Rattle.std.proofs.lemmas.List.Elements.{All-append, All-cons, All-head, All-nil, All-tail}
use Rattle.mds_calendar.specs.Length.{count_of}
use Rattle.mds_lines.specs.Lines.{line_pieces, line_text, most_lines}
use Rattle.mds_lines.specs.declared.line.Kind.TheVariants as a
use Rattle.mds_marks.specs.Quality.{variable}
use Rattle.mds_marks.specs.Reading.{ReadingValue}
use Rattle.mds_runs.specs.Runs.{AreRuns, IsFull, leaves_out}
use Rattle.mds_runs.specs.declared.cover.Run.{Run}
use Rattle.mds_runs.proofs.RunFacts.{leaves_out-from_full}
use Rattle.mds_records.specs.declared.file.FaultCode.TheVariants as code
use Rattle.mds_days.specs.RunFaults.{first_of, when}
use Rattle.mds_walk.proofs.Faultless.{fault_ends}
use Rattle.mds_walk.specs.Faults.{at_line, end_fault}
use Rattle.mds_statements.specs.Statements.{HeaderValue, Statement}
use Rattle.mds_statements.specs.Statements.Statement.{HeaderOf, StreamOf}
use Rattle.mds_nem12.specs.Faults.{fault_of, nem12}
use Rattle.mds_nem12.specs.Governing.{governors, has_gap, is_this}
use Rattle.mds_marks.specs.Mark.{bare_null}
use Rattle.mds_nem12.specs.Said.{count_in}
use Rattle.mds_nem12.specs.Statements.{statements, statements_of}
use Rattle.mds_nem12.proofs.States.{closed_at}
use Rattle.mds_nem12.proofs.Taken.{governs}
use Rattle.mds_export.specs.ReadBack.{IsInBounds, IsLawful, ReadsAs, variable_mark}
use Rattle.mds_export.specs.Rows.{RowValue, EndRow}
use Rattle.mds_statements.specs.Selected.{AreOrderly, IsWhole, days_of, most_days}
use Rattle.mds_export.specs.Placed.{PlacedDay, is_governed, placed_after, placed_days}
use Rattle.mds_export.specs.Exports.{AreDayRows, AreFewest, AreInTurn, day_row, details_row, details_rows, header_row, mark_of_all, marks_of, run_row, run_rows}
use Rattle.mds_export.specs.Shows.{Shows, day_selected, day_stated, selection_stated, stream_selected, unlined}
use Rattle.mds_export.specs.WriterSteps.{IsWritten, IsWrittenExport}
use Rattle.mds_statements.specs.declared.selected.SelectedDay.{SelectedDay}
use Rattle.mds_statements.specs.declared.selected.SelectedStream.{SelectedStream}
use Rattle.mds_statements.proofs.SelectedTests.{All-split}
use Rattle.mds_export.proofs.Bounds.{AreLawfulReadings, IsMeasured, governed_same, known_rows, not_variable_at, streams_bounded}
use Rattle.mds_export.proofs.InTurn.{turn_split}
use Rattle.mds_export.proofs.Said.{Block, kind_of_row}
use Rattle.mds_export.proofs.Sound.{free_push, record_sound}
use Rattle.mds_export.proofs.Spelled.{spelled_fewest, spelled_own}
use Rattle.mds_export.proofs.Stated.{Wrote, block_of, on_day, on_runs, with_details, wrote_day, wrote_details, wrote_header}
use Rattle.mds_export.proofs.TextLines.{AreRead, lines_read, pieces_of, pieces_text, read_length, read_split}
use Rattle.mds_export.proofs.Writes.{export_form}

wrote_same : (ls ks : List (List ℕ)) (said told : List Statement) (header : HeaderValue) (block : Option Block) → ls ≡ ks → said ≡ told
    → Wrote ls said header block → Wrote ks told header block
wrote_same ls ks said told header block e f w =
    subst (λ (xs : List (List ℕ)). Wrote xs told header block) e (subst (λ (sd : List Statement). Wrote ls sd header block) f w)

gap_first : (b c : Bool) → b ≡ false → (b && c) ≡ false
gap_first true c e = absurd (cc)
gap_first false c e = refl

gap_last : (b c : Bool) → c ≡ false → (b && c) ≡ false
gap_last true c e = e
gap_last false c e = refl

not_equal : (m n : ℕ) → m ≢ n → eqb m n ≡ false
not_equal m n h = grind (arith, nat_tests)

-- ---- a day

-- the marks of a day are as many as its readings
count_of_marks : (readings : List ReadingValue) → length (marks_of readings) ≡ length readings
count_of_marks readings = length-map readings (λ (r : ReadingValue). r.mark)

-- what the rows of a day stand on
pub record IsFitDay (placed : PlacedDay) (runs : List Run) : Type 0 where
  pub whole : length placed.day.readings ≡ count_of placed.day.length
  pub lawful : AreLawfulReadings placed.day.readings
  pub fewest : AreFewest (marks_of placed.day.readings) runs

-- several runs, or none of no intervals
told_several : (lines : List (List ℕ)) (said : List Statement) (header : HeaderValue) (placed : PlacedDay) (runs : List Run) (x : List ℕ)
    (more : List (List ℕ)) → Wrote lines said header (Some (block_of placed)) → IsFitDay placed runs → ReadsAs (day_row placed.day None) x
    → AreRead (map run_row runs) more → length lines + length (x ∷ more) ≤ most_lines
    → Wrote (lines ++ x ∷ more) (said ++ with_details header.moment placed (day_selected placed)) header (Some (block_of placed))
told_several lines said header placed runs x more w fit r rest few =
    let readings = placed.day.readings in
    let n = length readings in
    let size = count_of_marks readings in
    let day = on_day lines said header placed None x w r fit.whole (omega arith) in
    let lawful : AreRuns n runs = subst (λ (k : ℕ). AreRuns k runs) size fit.fewest.lawful in
    let full : IsFull n runs = subst (λ (k : ℕ). IsFull k runs) size fit.fewest.full in
    let spelled = spelled_fewest (marks_of readings) variable_mark runs fit.fewest in
    let all = on_runs (lines ++ x ∷ []) (statements lines) header placed variable_mark (length lines + 1) [] runs more day rest fit.whole lawful
    (omega (arith, length_push lines x)) in
    subst (λ (ls : List (List ℕ)). Wrote ls (said ++ with_details header.moment placed (day_selected placed)) header (Some (block_of placed)))
    (append_assoc lines (x ∷ []) more)
    (wrote_day (lines ++ x ∷ [] ++ more) lines said header placed variable_mark (length lines + 1) runs all w.stated fit.whole fit.lawful
    (gap_last (eqb variable_mark.quality.flag variable) (leaves_out n runs) (leaves_out-from_full n runs full)) (λ k lt. spelled.marked k (omega arith) (omega arith)))

-- one run
told_one : (lines : List (List ℕ)) (said : List Statement) (header : HeaderValue) (placed : PlacedDay) (run : Run) (x : List ℕ)
    → Wrote lines said header (Some (block_of placed)) → IsFitDay placed (run ∷ []) → ReadsAs (day_row placed.day (Some run.mark)) x
    → length lines + 1 ≤ most_lines
    → Wrote (lines ++ x ∷ []) (said ++ with_details header.moment placed (day_selected placed)) header (Some (block_of placed))
told_one lines said header placed run x w fit r few =
    let readings = placed.day.readings in
    let n = length readings in
    let size = count_of_marks readings in
    let day = on_day lines said header placed (Some run.mark) x w r fit.whole few in
    let spelled = spelled_fewest (marks_of readings) run.mark (run ∷ []) fit.fewest in
    let own = spelled_own (marks_of readings) run.mark 0 run [] spelled in
    let plain = not_variable_at readings 0 run.mark fit.lawful (own 0 (omega arith) spelled.meets.1) in
    let other = not_equal run.mark.quality.flag variable plain in
    wrote_day (lines ++ x ∷ []) lines said header placed run.mark (length lines + 1) [] day w.stated fit.whole fit.lawful
    (gap_first (eqb run.mark.quality.flag variable) (leaves_out n []) other) (λ k lt. own k (omega arith) (omega (arith, spelled.meets.2)))

day_told : (lines : List (List ℕ)) (said : List Statement) (header : HeaderValue) (placed : PlacedDay) (runs : List Run)
    (xs : List (List ℕ)) → Wrote lines said header (Some (block_of placed)) → IsFitDay placed runs
    → AreRead (day_row placed.day (mark_of_all runs) ∷ run_rows runs) xs → length lines + length xs ≤ most_lines
    → Wrote (lines ++ xs) (said ++ with_details header.moment placed (day_selected placed)) header (Some (block_of placed))
day_told lines said header placed runs [] w fit r few = absurd r
day_told lines said header placed [] (x ∷ more) w fit r few = told_several lines said header placed [] x more w fit r.0 r.1 few
day_told lines said header placed (run ∷ []) (x ∷ []) w fit r few = told_one lines said header placed run x w fit r.0 few
day_told lines said header placed (run ∷ []) (x ∷ y ∷ more) w fit r few = absurd r.1
day_told lines said header placed (run ∷ next ∷ runs) (x ∷ more) w fit r few =
    told_several lines said header placed (run ∷ next ∷ runs) x more w fit r.0 r.1 few

-- a 200 where one is needed
begun : (b : Bool) (lines : List (List ℕ)) (said : List Statement) (header : HeaderValue) (block : Option Block) (placed : PlacedDay)
    (xs : List (List ℕ)) → Wrote lines said header block → (b ≡ true → block ≡ Some (block_of placed))
    → AreRead (cond b [] (details_row placed ∷ [])) xs → length lines + length xs ≤ most_lines
    → Wrote (lines ++ xs) (said ++ cond b [] (StreamOf (stream_selected header.moment placed) ∷ [])) header (Some (block_of placed))
begun true lines said header block placed [] w same r few =
    wrote_same lines (lines ++ []) said (said ++ []) header (Some (block_of placed)) (sym (append-nil lines)) (sym (append-nil said))
    (subst (λ (b : Option Block). Wrote lines said header b) (same refl) w)
begun true lines said header block placed (x ∷ xs) w same r few = absurd r
begun false lines said header block placed [] w same r few = absurd r
begun false lines said header block placed (x ∷ []) w same r few = wrote_details lines said header block placed x w r.0 few
begun false lines said header block placed (x ∷ y ∷ xs) w same r few = absurd r.1

placed_told : (lines : List (List ℕ)) (said : List Statement) (header : HeaderValue) (block : Option Block) (placed : PlacedDay) (runs : List Run)
    (xs : List (List ℕ)) → Wrote lines said header block → (is_governed placed.before placed.day ≡ true → block ≡ Some (block_of placed))
    → IsFitDay placed runs → AreRead (details_rows placed ++ day_row placed.day (mark_of_all runs) ∷ run_rows runs) xs
    → length lines + length xs ≤ most_lines
    → Wrote (lines ++ xs) (said ++ day_stated header.moment placed) header (Some (block_of placed))
placed_told lines said header block placed runs xs w same fit r few =
    let b = is_governed placed.before placed.day in
    let parts = read_split (details_rows placed) (day_row placed.day (mark_of_all runs) ∷ run_rows runs) xs r in
    let size = ap length parts.2 ∙ length-append parts.0 parts.1 in
    let stream = cond b [] (StreamOf (stream_selected header.moment placed) ∷ []) in
    let one = begun b lines said header block placed parts.0 w same parts.3 (omega arith) in
    let two = day_told (lines ++ parts.0) (said ++ stream) header placed runs parts.1 one fit parts.4 (omega (arith, length-append lines parts.0)) in
    wrote_same _ _ _ _ header (Some (block_of placed)) (append_assoc lines parts.0 parts.1 ∙ ap (λ t. lines ++ t) (sym parts.2))
    (append_assoc said stream (with_details header.moment placed (day_selected placed))) two

-- ---- days and streams

-- the last 200 is that of the day before, if there is one
Agrees : SelectedStream → Option SelectedDay → Option Block → Type 0
Agrees selected before block =
    IfSome before (λ day. block ≡ Some (block_of (record { selected = selected; before = None; day = day })))

agreed : (selected : SelectedStream) (before : Option SelectedDay) (day : SelectedDay) (block : Option Block) → Agrees selected before block
    → is_governed before day ≡ true → block ≡ Some (block_of (record { selected = selected; before = None; day = day }))
unfolding Agrees
agreed selected None day block h e = absurd (cc)
agreed selected (Some before) day block h e =
    let same = governed_same before day e in
    h ∙ (λ i. Some (record { stream = selected.stream; length = same.0 i; unit = same.1 i; details = same.2 i }))

pub record WroteAll (lines : List (List ℕ)) (said : List Statement) (header : HeaderValue) : Type 0 where
  pub block : Option Block
  pub wrote : Wrote lines said header block

wrote_nothing : (lines : List (List ℕ)) (said : List Statement) (header : HeaderValue) (block : Option Block) (xs : List (List ℕ)) (rows : List RowValue)
    → Wrote lines said header block → rows ≡ [] → AreRead rows xs → WroteAll (lines ++ xs) (said ++ []) header
wrote_nothing lines said header block [] rows w e r = record {
  block = block;
  wrote = wrote_same lines (lines ++ []) said (said ++ []) header block (sym (append-nil lines)) (sym (append-nil said)) w;
}
wrote_nothing lines said header block (x ∷ xs) rows w e r = absurd (subst (λ rs. AreRead rs (x ∷ xs)) e r)

days_told : (selected : SelectedStream) (before : Option SelectedDay) (days : List SelectedDay) (rows : List RowValue) (lines : List (List ℕ))
    (said : List Statement) (header : HeaderValue) (block : Option Block) (xs : List (List ℕ))
    → AreInTurn AreDayRows (placed_after selected before days) rows → All IsLawful rows → IsMeasured before → All IsWhole days
    → Wrote lines said header block → Agrees selected before block → AreRead rows xs → length lines + length xs ≤ most_lines
    → WroteAll (lines ++ xs) (said ++ flat_map (day_stated header.moment) (placed_after selected before days)) header
unfolding Agrees
days_told selected before [] rows lines said header block xs turn lawful known whole w agrees r few =
    wrote_nothing lines said header block xs rows w turn r
days_told selected before (day ∷ days) rows lines said header block xs turn lawful known whole w agrees r few =
    let placed : PlacedDay = record { selected = selected; before = before; day = day } in
    let both = All-split IsLawful turn.0 turn.1 (subst (All IsLawful) turn.2 lawful) in
    let whole_day = All-head IsWhole day days whole in
    let here = known_rows placed turn.0 turn.3.0 bare_null turn.3.1 turn.3.2 both.0 known whole_day in
    let parts = read_split turn.0 turn.1 xs (subst (λ rs. AreRead rs xs) turn.2 r) in
    let size = ap length parts.2 ∙ length-append parts.0 parts.1 in
    let fit : IsFitDay placed turn.3.0 = record { whole = whole_day; lawful = here.readings; fewest = turn.3.1 } in
    let one = placed_told lines said header block placed turn.3.0 parts.0 w (agreed selected before day block agrees) fit
    (subst (λ rs. AreRead rs parts.0) turn.3.2 parts.3) (omega arith) in
    let rest = days_told selected (Some day) days turn.1 (lines ++ parts.0) (said ++ day_stated header.moment placed) header (Some (block_of placed))
    parts.1 turn.4 both.1 here.is_length (All-tail IsWhole day days whole) one refl parts.4 (omega (arith, length-append lines parts.0)) in
    record {
      block = rest.block;
      wrote = wrote_same _ _ _ _ header rest.block (append_assoc lines parts.0 parts.1 ∙ ap (λ t. lines ++ t) (sym parts.2))
          (append_assoc said (day_stated header.moment placed) (flat_map (day_stated header.moment) (placed_after selected (Some day) days))) rest.wrote;
    }

streams_told : (streams : List SelectedStream) (rows : List RowValue) (lines : List (List ℕ)) (said : List Statement) (header : HeaderValue)
    (block : Option Block) (xs : List (List ℕ)) → AreInTurn AreDayRows (placed_days streams) rows → All IsLawful rows
    → All IsWhole (days_of streams) → Wrote lines said header block → AreRead rows xs → length lines + length xs ≤ most_lines
    → WroteAll (lines ++ xs) (said ++ flat_map (day_stated header.moment) (placed_days streams)) header
unfolding Agrees
streams_told [] rows lines said header block xs turn lawful whole w r few = wrote_nothing lines said header block xs rows w turn r
streams_told (selected ∷ streams) rows lines said header block xs turn lawful whole w r few =
    let days = selected.days.items in
    let here = placed_after selected None days in
    let split = turn_split AreDayRows here (placed_days streams) rows turn in
    let both = All-split IsLawful split.0 split.1 (subst (All IsLawful) split.2 lawful) in
    let wholes = All-split IsWhole days (days_of streams) whole in
    let parts = read_split split.0 split.1 xs (subst (λ rs. AreRead rs xs) split.2 r) in
    let size = ap length parts.2 ∙ length-append parts.0 parts.1 in
    let one = days_told selected None days split.0 lines said header block parts.0 split.3 both.0 tt wholes.0 w tt parts.3 (omega arith) in
    let rest = streams_told streams split.1 (lines ++ parts.0) (said ++ flat_map (day_stated header.moment) here) header one.block parts.1 split.4 both.1
    wholes.1 one.wrote parts.4 (omega (arith, length-append lines parts.0)) in
    record {
      block = rest.block;
      wrote = wrote_same _ _ _ _ header rest.block (append_assoc lines parts.0 parts.1 ∙ ap (λ t. lines ++ t) (sym parts.2))
          (append_assoc said (flat_map (day_stated header.moment) here) (flat_map (day_stated header.moment) (placed_days streams))
          ∙ ap (λ t. said ++ t) (sym (flat_map-append (day_stated header.moment) here (placed_days streams)))) rest.wrote;
    }

-- ---- the end

-- lines that are a whole file without a fault, and what they state
pub record IsTold (lines : List (List ℕ)) (said : List Statement) : Type 0 where
  pub faultless : (text : List ℕ) → line_pieces text ≡ pieces_of lines → fault_of text ≡ None
  pub stated : map unlined (statements lines) ≡ said

told_end : (lines : List (List ℕ)) (said : List Statement) (header : HeaderValue) (block : Option Block) (x : List ℕ)
    → Wrote lines said header block → ReadsAs EndRow x → length lines + 1 ≤ most_lines → IsTold (lines ++ x ∷ []) said
unfolding fault_of
told_end lines said header block x w r few =
    let is = kind_of_row EndRow x r in
    let all = lines ++ x ∷ [] in
    let free = free_push lines x w.free
    (record_sound lines x a.EndOfData r.kind_is w.end_next w.gapless (r.faultless (count_in (governors lines).details) tt) refl) r.short few in
    let ends : nem12.of_end all ≡ None =
    governs (λ g. first_of (when (has_gap g) code.RunGap ∷ when (not (is_this a.EndOfData g.previous)) code.MissingEnd ∷ []) ≡ None) lines x
    (Some a.EndOfData) is (ap (λ b. first_of (when b code.RunGap ∷ None ∷ [])) w.gapless) in
    record {
      faultless = λ text e.
          fault_ends nem12 text (pieces_of all) e free ∙ ap (end_fault nem12) (pieces_text all)
          ∙ ap (option_map (at_line (length all + 1))) ends;
      stated = ap (map unlined) (closed_at lines x (Some a.EndOfData) is refl ∙ append-nil (statements lines)) ∙ w.stated;
    }

all_told : (header : HeaderValue) (streams : List SelectedStream) (rows : List RowValue) (first last : List ℕ) (xs : List (List ℕ))
    → AreInTurn AreDayRows (placed_days streams) rows → All IsLawful rows → All IsWhole (days_of streams) → ReadsAs (header_row header) first
    → AreRead rows xs → ReadsAs EndRow last → length xs + 2 ≤ most_lines → IsTold (first ∷ xs ++ last ∷ []) (selection_stated header streams)
all_told header streams rows first last xs turn lawful whole h r end few =
    let all = streams_told streams rows (first ∷ []) (HeaderOf header ∷ []) header None xs turn lawful whole (wrote_header header first h) r
    (omega arith) in
    told_end (first ∷ xs) (selection_stated header streams) header all.block last all.wrote end (omega arith)

-- the rows of a text
lawful_rows : (rows : List RowValue) (text : List ℕ) → AreInTurn IsWritten rows text → All IsLawful rows
lawful_rows [] text h = All-nil IsLawful
lawful_rows (row ∷ rows) text h = All-cons IsLawful row rows h.3.1 (lawful_rows rows h.1 h.4)

-- the lines of all rows are those of a 100, of days, and of a 900
last_read : (rows : List RowValue) (xs : List (List ℕ)) → AreRead (rows ++ EndRow ∷ []) xs
    → (days : List (List ℕ)) × (last : List ℕ) × (xs ≡ days ++ last ∷ []) × AreRead rows days × ReadsAs EndRow last
last_read rows xs r =
    let parts = read_split rows (EndRow ∷ []) xs r in at parts.0 parts.1 parts.2 parts.3 parts.4 where
      at : (a b : List (List ℕ)) → xs ≡ a ++ b → AreRead rows a → AreRead (EndRow ∷ []) b
          → (days : List (List ℕ)) × (last : List ℕ) × (xs ≡ days ++ last ∷ []) × AreRead rows days × ReadsAs EndRow last
      at a [] e h g = absurd g
      at a (x ∷ []) e h g = (a, x, e, h, g.0)
      at a (x ∷ y ∷ b) e h g = absurd g.1

-- the text has no fault, and states what was selected
pub export_told : (header : HeaderValue) (streams : List SelectedStream) (rows : List RowValue) (text : List ℕ)
    → AreInTurn AreDayRows (placed_days streams) rows → AreInTurn IsWritten (header_row header ∷ rows ++ EndRow ∷ []) text
    → All IsWhole (days_of streams) → length (days_of streams) ≤ most_days
    → (fault_of text ≡ None) × (map unlined (statements_of text) ≡ selection_stated header streams)
unfolding statements_of
export_told header streams rows text turn written whole few =
    let lawful = lawful_rows (header_row header ∷ rows ++ EndRow ∷ []) text written in
    let days_lawful = (All-split IsLawful rows (EndRow ∷ []) (All-tail IsLawful (header_row header) (rows ++ EndRow ∷ []) lawful)).0 in
    let bounded = streams_bounded streams rows bare_null turn days_lawful whole in
    let bounds : All IsInBounds (header_row header ∷ rows ++ EndRow ∷ []) =
    All-cons IsInBounds (header_row header) (rows ++ EndRow ∷ []) tt
    (All-append IsInBounds rows (EndRow ∷ []) bounded.0 (All-cons IsInBounds EndRow [] tt (All-nil IsInBounds))) in
    let read = lines_read (header_row header ∷ rows ++ EndRow ∷ []) text written bounds in
    at read.0 read.1 read.2 days_lawful bounded.1 where
      at : (lines : List (List ℕ)) → AreRead (header_row header ∷ rows ++ EndRow ∷ []) lines → line_pieces text ≡ pieces_of lines
          → All IsLawful rows → length rows ≤ 290 * length (days_of streams)
          → (fault_of text ≡ None) × (map unlined (statements_of text) ≡ selection_stated header streams)
      at [] r pieces lawful size = absurd r
      at (first ∷ xs) r pieces lawful size =
          let parts = last_read rows xs r.1 in
          let told = all_told header streams rows first parts.1 parts.0 turn lawful whole r.0 parts.3 parts.4
          (omega (arith, read_length rows parts.0 parts.3, size, few)) in
          let lines = first ∷ parts.0 ++ parts.1 ∷ [] in
          let same : line_pieces text ≡ pieces_of lines = pieces ∙ ap (λ t. pieces_of (first ∷ t)) parts.2 in (
            told.faultless text same,
            ap (λ ps. map unlined (statements (map line_text ps))) same ∙ ap (λ ls. map unlined (statements ls)) (pieces_text lines) ∙ told.stated,
          )

-- so that what was written shows the selection
pub export_shown : (header : HeaderValue) (streams : List SelectedStream) (text : List ℕ) → IsWrittenExport header streams text
    → AreOrderly streams → Shows header streams text
export_shown header streams text e orderly =
    let told = export_told header streams e.rows text e.of_days e.lines orderly.whole orderly.few in
    record { form = export_form header streams text e; faultless = told.0; stated = told.1 }

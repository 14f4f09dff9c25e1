-- The text of days, as it is written one day after the other.
use Rattle.std.proofs.Common.{◌≡◌, ◌+◌, ◌<◌, ℕ, zero, suc, Bool, true, false, cond, List, [], ◌∷◌, ◌++◌, length, map, take, get_or, Option, Some, None, Result, Ok, Err, OnOk, refl, sym, ap, subst, ◌∙◌, arith, append_assoc}
use Rattle.std.specs.List.{last_or}
use Rattle.std.proofs.lemmas.List.{map_push, take_more}
use Rattle.mds_quantity.specs.Append.{Appends}
use Rattle.mds_marks.specs.declared.mark.Mark.{Mark}
use Rattle.mds_runs.specs.declared.cover.Run.{Run}
use Rattle.mds_export.specs.ReadBack.{IsLawful}
use Rattle.mds_export.specs.Rows.{IsRowText, RowValue, EndRow, HeaderRow}
use Rattle.mds_statements.specs.Statements.{HeaderValue}
use Rattle.mds_nem12.proofs.Lasts.{flat_map_push, last_or_push}
use Rattle.mds_export.specs.Placed.{PlacedDay, is_governed, placed_after, placed_days}
use Rattle.mds_export.specs.Exports.{AreDayRows, AreFewest, AreInTurn, IsExport, day_row, details_row, details_rows, header_row, mark_of_all, marks_of, run_row, run_rows}
use Rattle.mds_export.specs.WriterSteps.{AreWritten, HasDayText, IsWritten, IsWrittenExport}
use Rattle.mds_statements.specs.declared.selected.SelectedDay.{SelectedDay}
use Rattle.mds_statements.specs.declared.selected.SelectedStream.{SelectedStream}
use Rattle.mds_export.proofs.InTurn.{turn_append, turn_cons, turn_map, turn_one, turn_push}

-- one text after another
pub appends_both : (old mid new a b : List ℕ) → Appends old mid a → Appends mid new b → Appends old new (a ++ b)
appends_both old mid new a b e f = f ∙ ap (λ t. t ++ b) e ∙ append_assoc old a b

-- what two clauses of a call that went well tell together
pub ok_both : {T E : Type 0} (r : Result T E) (L P Q : Type 0) → (L → P → Q) → OnOk r L → OnOk r P → OnOk r Q
ok_both (Ok x) L P Q more l h = more l h
ok_both (Err e) L P Q more l h = tt

-- the 200 of a day, where it has one
governed_rows : (b : Bool) (rows : List RowValue) (text : List ℕ) → b ≡ false → AreInTurn IsWritten rows text → AreInTurn IsWritten (cond b [] rows) text
governed_rows true rows text e h = absurd (cc)
governed_rows false rows text e h = h

pub details_new : (placed : PlacedDay) (old new : List ℕ) → is_governed placed.before placed.day ≡ false → IsLawful (details_row placed)
    → (text : List ℕ) × IsRowText (details_row placed) text × Appends old new text
    → (text : List ℕ) × AreInTurn IsWritten (details_rows placed) text × Appends old new text
details_new placed old new e lawful line = (
  line.0,
  governed_rows (is_governed placed.before placed.day) (details_row placed ∷ []) line.0 e
      (turn_one IsWritten (details_row placed) line.0 (line.1, lawful)),
  line.2,
)

-- the 300 of a day of one run
pub day_of_one : (day : SelectedDay) (runs : List Run) (run : Run) (old new : List ℕ) → AreFewest (marks_of day.readings) runs
    → runs ≡ run ∷ [] → (text : List ℕ) × IsWritten (day_row day (Some run.mark)) text × Appends old new text
    → (text : List ℕ) × HasDayText day text × Appends old new text
day_of_one day runs run old new fewest one line = (
  line.0,
  (run ∷ [], subst (AreFewest (marks_of day.readings)) one fewest, turn_one IsWritten (day_row day (Some run.mark)) line.0 line.1),
  line.2,
)

-- the 300 and the 400s of a day of several
several : (day : SelectedDay) (runs : List Run) (a b : List ℕ) → (length runs ≡ 1 → ⊥) → IsWritten (day_row day None) a
    → AreInTurn IsWritten (map run_row runs) b
    → AreInTurn IsWritten (day_row day (mark_of_all runs) ∷ run_rows runs) (a ++ b)
several day [] a b never h g = turn_cons IsWritten (day_row day None) [] a b h g
several day (run ∷ []) a b never h g = absurd (never refl)
several day (run ∷ next ∷ runs) a b never h g = turn_cons IsWritten (day_row day None) (map run_row (run ∷ next ∷ runs)) a b h g

pub day_of_several : (day : SelectedDay) (runs : List Run) (old mid new : List ℕ) → AreFewest (marks_of day.readings) runs
    → (length runs ≡ 1 → ⊥) → (text : List ℕ) × IsWritten (day_row day None) text × Appends old mid text
    → (text : List ℕ) × AreInTurn IsWritten (map run_row runs) text × Appends mid new text
    → (text : List ℕ) × HasDayText day text × Appends old new text
day_of_several day runs old mid new fewest never line rest = (
  line.0 ++ rest.0,
  (runs, fewest, several day runs line.0 rest.0 never line.1 rest.1),
  appends_both old mid new line.0 rest.0 line.2 rest.2,
)

-- the lines of runs, one more
pub runs_step : (runs : List Run) (i : ℕ) (run : Run) (old mid new : List ℕ) → i < length runs → run ≡ get_or runs i run
    → (text : List ℕ) × AreInTurn IsWritten (map run_row (take i runs)) text × Appends old mid text
    → (text : List ℕ) × IsRowText (run_row run) text × Appends mid new text → IsLawful (run_row run)
    → (text : List ℕ) × AreInTurn IsWritten (map run_row (take (i + 1) runs)) text × Appends old new text
runs_step runs i run old mid new lt is before line lawful =
    let taken : take (i + 1) runs ≡ take i runs ++ run ∷ [] = take_more runs i run lt ∙ ap (λ x. take i runs ++ x ∷ []) (sym is) in
    let rows : map run_row (take (i + 1) runs) ≡ map run_row (take i runs) ++ run_row run ∷ [] = ap (map run_row) taken ∙ map_push run_row (take i runs) run in (
      before.0 ++ line.0,
      subst (λ rs. AreInTurn IsWritten rs (before.0 ++ line.0)) (sym rows)
          (turn_push IsWritten (map run_row (take i runs)) (run_row run) before.0 line.0 before.1 (line.1, lawful)),
      appends_both old mid new before.0 line.0 before.2 line.2,
    )

pub written_both : (xs ys : List PlacedDay) (a b : List ℕ) → AreWritten xs a → AreWritten ys b → AreWritten (xs ++ ys) (a ++ b)
written_both xs ys a b h g = record {
  rows = h.rows ++ g.rows;
  of_days = turn_append AreDayRows xs ys h.rows g.rows h.of_days g.of_days;
  lines = turn_append IsWritten h.rows g.rows a b h.lines g.lines;
}

-- a day whose 200 and whose other rows were written
written_day : (placed : PlacedDay) (a b : List ℕ) → AreInTurn IsWritten (details_rows placed) a → HasDayText placed.day b
    → AreWritten (placed ∷ []) (a ++ b)
written_day placed a b details day =
    let rows = day_row placed.day (mark_of_all day.0) ∷ run_rows day.0 in
    record {
      rows = details_rows placed ++ rows;
      of_days = turn_one AreDayRows placed (details_rows placed ++ rows) (day.0, day.1, refl);
      lines = turn_append IsWritten (details_rows placed) rows a b details day.2;
    }

pub placed_written : (placed : PlacedDay) (old mid new : List ℕ)
    → (text : List ℕ) × AreInTurn IsWritten (details_rows placed) text × Appends old mid text
    → (text : List ℕ) × HasDayText placed.day text × Appends mid new text
    → (text : List ℕ) × AreWritten (placed ∷ []) text × Appends old new text
placed_written placed old mid new details day =
    (details.0 ++ day.0, written_day placed details.0 day.0 details.1 day.1, appends_both old mid new details.0 day.0 details.2 day.2)

-- days of a stream, one more
pub placed_push : (selected : SelectedStream) (before : Option SelectedDay) (days : List SelectedDay) (day : SelectedDay)
    → placed_after selected before (days ++ day ∷ [])
    ≡ placed_after selected before days ++ record { selected = selected; before = last_or before days; day = day } ∷ []
placed_push selected before [] day = refl
placed_push selected before (d ∷ days) day =
    ap (λ t. record { selected = selected; before = before; day = d } ∷ t) (placed_push selected (Some d) days day)

-- the whole text
pub export_written : (header : HeaderValue) (streams : List SelectedStream) (first text last : List ℕ)
    → IsRowText (header_row header) first → IsLawful (header_row header) → AreWritten (placed_days streams) text → IsRowText EndRow last
    → IsWrittenExport header streams (first ++ (text ++ last))
export_written header streams first text last h lawful days end = record {
  rows = days.rows;
  of_days = days.of_days;
  lines = turn_cons IsWritten (header_row header) (days.rows ++ EndRow ∷ []) first (text ++ last) (h, lawful)
      (turn_push IsWritten days.rows EndRow text last days.lines (end, tt));
}

pub export_form : (header : HeaderValue) (streams : List SelectedStream) (text : List ℕ) → IsWrittenExport header streams text
    → IsExport header streams text
export_form header streams text e = record {
  rows = e.rows;
  of_days = e.of_days;
  lines = turn_map IsWritten IsRowText (λ row part h. h.0) (header_row header ∷ e.rows ++ EndRow ∷ []) text e.lines;
}

-- the days of a stream up to a place, one more
pub stream_step : (selected : SelectedStream) (days : List SelectedDay) (k : ℕ) (before : Option SelectedDay) (day : SelectedDay) (old mid new : List ℕ)
    → k < length days → day ≡ get_or days k day → before ≡ last_or None (take k days)
    → (text : List ℕ) × AreWritten (placed_after selected None (take k days)) text × Appends old mid text
    → (text : List ℕ) × AreWritten (record { selected = selected; before = before; day = day } ∷ []) text × Appends mid new text
    → ((text : List ℕ) × AreWritten (placed_after selected None (take (k + 1) days)) text × Appends old new text)
    × (Some day ≡ last_or None (take (k + 1) days))
stream_step selected days k before day old mid new lt is last done more =
    let taken : take (k + 1) days ≡ take k days ++ day ∷ [] = take_more days k day lt ∙ ap (λ d. take k days ++ d ∷ []) (sym is) in
    let placed : placed_after selected None (take (k + 1) days)
    ≡ placed_after selected None (take k days) ++ record { selected = selected; before = before; day = day } ∷ [] =
    ap (placed_after selected None) taken ∙ placed_push selected None (take k days) day
    ∙ ap (λ b. placed_after selected None (take k days) ++ record { selected = selected; before = b; day = day } ∷ []) (sym last) in (
      (
        done.0 ++ more.0,
        subst (λ ps. AreWritten ps (done.0 ++ more.0)) (sym placed)
            (written_both (placed_after selected None (take k days)) _ done.0 more.0 done.1 more.1),
        appends_both old mid new done.0 more.0 done.2 more.2,
      ),
      sym (ap (last_or None) taken ∙ last_or_push None (take k days) day),
    )

-- and streams
pub streams_step : (streams : List SelectedStream) (k : ℕ) (selected : SelectedStream) (old mid new : List ℕ)
    → k < length streams → selected ≡ get_or streams k selected
    → (text : List ℕ) × AreWritten (placed_days (take k streams)) text × Appends old mid text
    → (text : List ℕ) × AreWritten (placed_after selected None selected.days.items) text × Appends mid new text
    → (text : List ℕ) × AreWritten (placed_days (take (k + 1) streams)) text × Appends old new text
streams_step streams k selected old mid new lt is done more =
    let taken : take (k + 1) streams ≡ take k streams ++ selected ∷ [] =
    take_more streams k selected lt ∙ ap (λ s. take k streams ++ s ∷ []) (sym is) in
    let placed : placed_days (take (k + 1) streams) ≡ placed_days (take k streams) ++ placed_after selected None selected.days.items =
    ap placed_days taken ∙ flat_map_push (λ s. placed_after s None s.days.items) (take k streams) selected in (
      done.0 ++ more.0,
      subst (λ ps. AreWritten ps (done.0 ++ more.0)) (sym placed)
          (written_both (placed_days (take k streams)) _ done.0 more.0 done.1 more.1),
      appends_both old mid new done.0 more.0 done.2 more.2,
    )

-- a 100 of these texts, the days, and a 900
pub all_written : (header : HeaderValue) (streams : List SelectedStream) (sender receiver old one two new : List ℕ)
    → sender ≡ header.sender → receiver ≡ header.receiver
    → (text : List ℕ) × IsRowText (HeaderRow header.moment sender receiver) text × Appends old one text
    → IsLawful (HeaderRow header.moment sender receiver)
    → (text : List ℕ) × AreWritten (placed_days streams) text × Appends one two text
    → (text : List ℕ) × IsRowText EndRow text × Appends two new text
    → (text : List ℕ) × IsWrittenExport header streams text × Appends old new text
all_written header streams sender receiver old one two new s r first lawful days last =
    let row : HeaderRow header.moment sender receiver ≡ header_row header = λ i. HeaderRow header.moment (s i) (r i) in (
      first.0 ++ (days.0 ++ last.0),
      export_written header streams first.0 days.0 last.0 (subst (λ x. IsRowText x first.0) row first.1) (subst IsLawful row lawful) days.1 last.1,
      appends_both old one new first.0 (days.0 ++ last.0) first.2 (appends_both one two new days.0 last.0 days.2 last.2),
    )

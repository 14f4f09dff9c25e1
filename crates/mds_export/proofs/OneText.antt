-- One text alone is that of a selection.
use Rattle.std.proofs.Common.{◌≡◌, ℕ, List, [], ◌∷◌, ◌++◌, length, map, codes, decimal, Some, sym, ap, subst, ◌∙◌, inl, inr}
use Rattle.std.proofs.lemmas.Bool.{cases_eq}
use Rattle.std.proofs.lemmas.List.{append_cancel_right}
use Rattle.mds_quantity.specs.Unit.{unit_text}
use Rattle.mds_calendar.specs.Calendar.{date_time_of, day_of}
use Rattle.mds_calendar.proofs.Days.{one_day_text}
use Rattle.mds_calendar.proofs.Moments.{date_time_other, date_time_short, one_moment_text}
use Rattle.mds_terms.proofs.ReadBack.{one_optional}
use Rattle.mds_statements.specs.Statements.{HeaderValue}
use Rattle.mds_marks.specs.Mark.{bare_null}
use Rattle.mds_export.specs.Rows.{IsHeaderMoment, IsRowText, RowValue, HeaderRow, DetailsRow, DayRow, RunRow, EndRow, line_of, own_fields, value_field}
use Rattle.mds_export.specs.Placed.{PlacedDay, placed_days}
use Rattle.mds_export.specs.Exports.{AreDayRows, AreInTurn, IsExport, day_row, details_rows, header_row, mark_of_all, marks_of, run_rows}
use Rattle.mds_statements.specs.declared.selected.SelectedStream.{SelectedStream}
use Rattle.mds_export.proofs.Shortest.{one_fewest}

-- a moment has one text of a length
one_short : (a b : List ℕ) (moment : ℕ) → date_time_of a ≡ Some moment → date_time_of b ≡ Some moment → length a ≡ 12 → length b ≡ 12 → a ≡ b
one_short a b moment e f m n =
    let same = one_moment_text (a ++ codes "00") (b ++ codes "00") moment (sym (date_time_short a m) ∙ e) (sym (date_time_short b n) ∙ f) in
    append_cancel_right a b (codes "00") same

one_header_moment : (moment : ℕ) (a b : List ℕ) → IsHeaderMoment moment a → IsHeaderMoment moment b → a ≡ b
one_header_moment moment a b e f =
    elim (cases_eq (length a) 12) [
      | inl short ↦ one_short a b moment e.0 f.0 short (f.1 ∙ sym e.1 ∙ short)
      | inr long ↦
          one_moment_text a b moment (sym (date_time_other a long) ∙ e.0) (sym (date_time_other b (λ h. long (e.1 ∙ sym f.1 ∙ h))) ∙ f.0)
    ]

-- a row has one text
pub one_row_text : (row : RowValue) (a b : List ℕ) → IsRowText row a → IsRowText row b → a ≡ b
one_row_text (HeaderRow moment sender receiver) a b (fs, (made, m, e), t) (gs, (done, n, f), u) =
    let same = one_header_moment moment made done m n in
    t ∙ ap line_of e ∙ ap (λ x. line_of (codes "100" ∷ codes "NEM12" ∷ x ∷ sender ∷ receiver ∷ [])) same ∙ sym (u ∙ ap line_of f)
one_row_text (DetailsRow stream details unit minutes) a b (fs, (next, m, e), t) (gs, (other, n, f), u) =
    let same = one_optional day_of one_day_text next other details.next m n in
    t ∙ ap line_of e
    ∙ ap (λ x. line_of (codes "200" ∷ stream.nmi ∷ details.configuration ∷ details.register ∷ stream.suffix ∷ details.datastream
    ∷ details.meter ∷ unit_text unit ∷ decimal minutes ∷ x ∷ [])) same
    ∙ sym (u ∙ ap line_of f)
one_row_text (DayRow date readings mark update) a b (fs, (day, updated, d, m, e), t) (gs, (other, moment, c, n, f), u) =
    let same = one_day_text day other date d c in
    let when = one_moment_text updated moment update m n in
    t ∙ ap line_of e
    ∙ (λ i. line_of (codes "300" ∷ same i ∷ map value_field readings ++ (own_fields mark ++ when i ∷ [] ∷ [])))
    ∙ sym (u ∙ ap line_of f)
one_row_text (RunRow first last mark) a b (fs, e, t) (gs, f, u) = t ∙ ap line_of e ∙ sym (u ∙ ap line_of f)
one_row_text EndRow a b (fs, e, t) (gs, f, u) = t ∙ ap line_of e ∙ sym (u ∙ ap line_of f)

-- and so has each list of things that have one
one_in_turn : {T A : Type 0} (Is : T → List A → Type 0) → ((x : T) (a b : List A) → Is x a → Is x b → a ≡ b)
    → (xs : List T) (a b : List A) → AreInTurn Is xs a → AreInTurn Is xs b → a ≡ b
one_in_turn Is one [] a b h g = h ∙ sym g
one_in_turn Is one (x ∷ xs) a b h g =
    let first = one x h.0 g.0 h.3 g.3 in
    let rest = one_in_turn Is one xs h.1 g.1 h.4 g.4 in
    h.2 ∙ (λ i. first i ++ rest i) ∙ sym g.2

-- a day has one list of rows
one_day : (placed : PlacedDay) (a b : List RowValue) → AreDayRows placed a → AreDayRows placed b → a ≡ b
one_day placed a b h g =
    let runs = one_fewest (marks_of placed.day.readings) bare_null h.0 g.0 h.1 g.1 in
    h.2 ∙ ap (λ rs. details_rows placed ++ day_row placed.day (mark_of_all rs) ∷ run_rows rs) runs ∙ sym g.2

pub one_text : (header : HeaderValue) (streams : List SelectedStream) (a b : List ℕ) → IsExport header streams a → IsExport header streams b → a ≡ b
one_text header streams a b h g =
    let rows = one_in_turn AreDayRows one_day (placed_days streams) h.rows g.rows h.of_days g.of_days in
    one_in_turn IsRowText one_row_text (header_row header ∷ g.rows ++ EndRow ∷ []) a b
    (subst (λ (rs : List RowValue). AreInTurn IsRowText (header_row header ∷ rs ++ EndRow ∷ []) a) rows h.lines) g.lines

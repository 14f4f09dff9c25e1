-- The registers agree with the queries of one stream and one day.
use Rattle.std.specs.Prelude.{◌≡◌, ◌≤◌, ◌<◌, ◌+◌, ℕ, zero, suc, List, [], ◌∷◌, ◌++◌, Option, Some, slice_get, get_or}
use Rattle.std.proofs.Common.{sym, ap, ◌∙◌, subst, inl, inr, arith, append_assoc}
use Rattle.std.specs.declared.alloc.Global.{Global}
use Rattle.std.specs.declared.vec.Vec.{Vec}
use Rattle.std.proofs.lemmas.Option.{slice_get-get_or}
use Rattle.mds_quantity.specs.declared.unit.Unit.{Unit as MeasureUnit}
use Rattle.mds_calendar.specs.Length.{count_of}
use Rattle.mds_names.specs.declared.stream.Stream.{Stream}
use Rattle.mds_marks.specs.Reading.{ReadingValue}
use Rattle.mds_world.proofs.Forms.{form_known, one_day_reading, one_size}
use Rattle.mds_world.specs.Current.{IsFormOf, IsReading}
use Rattle.mds_world.specs.Lists.{Member}
use Rattle.mds_world.specs.World.{Agrees, IsKnownStream, World}
use Rattle.mds_registers.specs.Readings.{AreIntervalRows, IsShown, readings_head_text}
use Rattle.mds_registers.specs.Registers.{AreGapRowsText, gap_fields, gaps_head_text}
use Rattle.mds_registers.specs.declared.writing.GapRow.{GapRow}
use Rattle.mds_registers.proofs.ReadingLaws.{day_at}
use Rattle.mds_registers.proofs.Rows.{rows_are_some}
use Rattle.mds_ranges.specs.Ranges.{AreGapRows}
use Rattle.mds_ranges.specs.Readings.{AreReadings}
use Rattle.mds_messages.specs.declared.answer.Answer.TheVariants as told
use Rattle.mds_export.specs.Exports.{AreInTurn}
use Rattle.mds_service.specs.RangeAnswers.{IsAsked, IsMissingOf, TellsReadings}
use Rattle.mds_laws.specs.Registers.{AreRowsOf, HasDayOf, MissingShowsGaps, ReadingsShowDays, ReadingsShowExports}
use Rattle.mds_laws.proofs.OneRange.{one_rows, one_text}

module _ (w : World) (since : Option ℕ) (first last : ℕ) (stream : Stream) where
  -- the rows of its gaps, as a text
  abbrev HasRowsIn : List ℕ → Type 0
  HasRowsIn rows = (gaps : List GapRow) × AreGapRows w stream first last gaps × AreGapRowsText stream gaps rows

  -- a text has them between other rows
  abbrev IsPartOf : List ℕ → Type 0
  IsPartOf text = (before rows behind : List ℕ) × (text ≡ before ++ rows ++ behind) × HasRowsIn rows

  its_rows : (text : List ℕ) → IsAsked w since stream → IsMissingOf w since first last stream text → HasRowsIn text
  its_rows text asks (inl (also, gaps, are, rows)) = (gaps, are, rows)
  its_rows text asks (inr (idle, e)) = absurd (idle asks)

  part_of : (streams : List Stream) (text : List ℕ) → IsAsked w since stream → Member stream streams
      → AreInTurn (IsMissingOf w since first last) streams text → IsPartOf text
  part_of [] text asks within are = absurd within
  part_of (one ∷ more) text asks (inl same) (here, rest, e, is, are) =
      ([], here, rest, e, its_rows here asks (subst (λ s. IsMissingOf w since first last s here) (sym same) is))
  part_of (one ∷ more) text asks (inr within) (here, rest, e, is, are) =
      let part = part_of more rest asks within are in (
        here ++ part.0,
        part.1,
        part.2,
        e ∙ ap (λ (t : List ℕ). here ++ t) part.3 ∙ sym (append_assoc here (part.0 ++ part.1) part.2)
            ∙ ap (λ (t : List ℕ). t ++ part.2) (sym (append_assoc here part.0 part.1)),
        part.4,
      )

known_of : (w : World) (since : Option ℕ) (stream : Stream) → IsAsked w since stream → IsKnownStream w stream
known_of w since stream asks =
    let head = asks.1.known in inl (head.0, head.1, head.2)

pub missing_shows_gaps : MissingShowsGaps
missing_shows_gaps w first last since stream missing gaps misses has asks =
    let part = part_of w since first last stream misses.1 misses.3 asks
    ((misses.2.each stream).1 (known_of w since stream asks)) misses.5 in
    let rows = part.4 in
    let same : rows.0 ≡ has.1 = one_rows (λ row. row.day) (λ row. row.gap.first) _ first last rows.0 has.1 rows.1 has.2 in
    let own = has.3 in
    let text : part.1 ≡ own.0 = one_text (λ row. row.day) (λ row. row.gap.first) (gap_fields stream) has.1 part.1 own.0
    (subst (λ g. AreGapRowsText stream g part.1) same rows.2) own.2 in (
      part.0,
      part.1,
      part.2,
      misses.4 ∙ ap (λ (t : List ℕ). gaps_head_text ++ t) part.3,
      own.1 ∙ ap (λ (t : List ℕ). gaps_head_text ++ t) (sym text),
      λ day gap from to is.
          let row : GapRow = record { day = day; gap = gap } in
          rows_are_some (λ (r : GapRow). r.day) (gap_fields stream) rows.0 part.1 row ((rows.1.each row).1 (from, to, is)) rows.2,
    )

-- ---- readings

module _ (w : World) (agrees : Agrees w) (s : Stream) (d length : ℕ) (unit : MeasureUnit) (form : IsFormOf w s d length unit)
    (readings : List ReadingValue) (are : AreReadings w s d (count_of length) readings) where
  -- what is shown of an interval is what the day shows of it
  shown_is : (n : ℕ) (reading : ReadingValue) (update : List ℕ) → n < count_of length → IsShown w s d length (n + 1) reading update
      → slice_get readings n ≡ Some reading
  shown_is n reading update within shows =
      let there = slice_get-get_or readings n reading (omega (arith, within, are.count_is)) in
      let same = one_day_reading w s d (n + 1) (get_or readings n reading) reading agrees
      (are.each n (get_or readings n reading) there)
      (inl (length, unit, form, is_reading_of reading update shows)) in
      there ∙ ap (λ (r : ReadingValue). Some r) same
    where
      is_reading_of : (r : ReadingValue) (u : List ℕ) → IsShown w s d length (n + 1) r u → IsReading w s d length (n + 1) r
      is_reading_of r u (inl (update, current, is)) = inl (update, current)
      is_reading_of r u (inr (none, e, f)) = inr (none, e)

  rows_of : (date : List ℕ) (n : ℕ) (text : List ℕ) → n ≤ count_of length → AreIntervalRows w s d date length unit n text
      → AreRowsOf s date length unit readings n text
  rows_of date zero text within e = e
  rows_of date (suc n) text within (before, reading, update, rows, shows, e) = (
    before,
    reading,
    update,
    rows_of date n before (omega (arith, within)) rows,
    (let next : n + 1 ≡ suc n = omega arith in
        shown_is n reading update (omega (arith, within)) (rw next shows)),
    e,
  )

readings_show : (w : World) (s : Stream) (first last d length : ℕ) (unit : MeasureUnit) (readings : List ReadingValue)
    (text : Vec ℕ Global) → Agrees w → TellsReadings w s first last (told.Readings text) → first ≤ d → d ≤ last
    → IsFormOf w s d length unit → AreReadings w s d (count_of length) readings
    → HasDayOf s d length unit readings text.items
readings_show w s first last d length unit readings text agrees tells from to form are =
    let known = form_known w s d length unit form in
    let part = day_at w s tells.1 d tells.3.0 ((tells.2.each d).1 (from, to, known)) tells.3.2 in
    let day = part.3 in
    let same = one_size w s d day.1 length day.2 unit agrees day.4 form in
    let rows = subst (λ (m : ℕ). AreIntervalRows w s d day.0 m unit (count_of m) part.1) same.0
    (subst (λ (u : MeasureUnit). AreIntervalRows w s d day.0 day.1 u (count_of day.1) part.1) same.1 day.5) in
    let head = readings_head_text in (
      head ++ part.0,
      part.1,
      part.2,
      tells.3.1 ∙ ap (λ (t : List ℕ). head ++ t) part.4 ∙ sym (append_assoc head (part.0 ++ part.1) part.2)
          ∙ ap (λ (t : List ℕ). t ++ part.2) (sym (append_assoc head part.0 part.1)),
      day.0,
      day.3,
      rows_of w agrees s d length unit form readings are day.0 (count_of length) part.1 (omega arith) rows,
    )

pub readings_show_days : ReadingsShowDays
readings_show_days w s first last d text answer lawful tells from to day =
    readings_show w s first last d answer.length answer.unit answer.readings.items text lawful.agrees tells from to day.form
    (record { count_is = day.count; each = day.readings })

pub readings_show_exports : ReadingsShowExports
readings_show_exports w s first last text selected lawful tells from to day =
    readings_show w s first last selected.date selected.length selected.unit selected.readings text lawful.agrees tells from
    to day.form day.readings

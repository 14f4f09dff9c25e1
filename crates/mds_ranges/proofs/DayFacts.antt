-- What a day's book says of its World: its current readings, its latest update and its form.
use Rattle.std.proofs.Common.{◌≡◌, ℕ, ◌+◌, List, [], ◌∷◌, ◌++◌, length, get_or, slice_get, Option, Some, refl, sym, ap, ◌∙◌, subst, inl, inr, arith}
use Rattle.std.specs.Prelude.{IfOk, Result, Ok, Err}
use Rattle.std.proofs.lemmas.Bool.{cases_lt}
use Rattle.std.proofs.lemmas.List.{get_or_append_left, length-append}
use Rattle.std.proofs.lemmas.Option.{get_or_from_slice_get, slice_get-get_or, slice_get_within}
use Rattle.std.proofs.Math.Seq.{get_or-append_seam}
use Rattle.mds_calendar.specs.Length.{count_of}
use Rattle.mds_quantity.specs.declared.unit.Unit.{Unit as MeasureUnit}
use Rattle.mds_names.specs.declared.stream.Stream.{Stream}
use Rattle.mds_marks.specs.Reading.{ReadingValue}
use Rattle.mds_world.specs.Current.{IsCurrentDetails, IsDayReading, IsFormOf, IsLatest}
use Rattle.mds_world.specs.Facts.Fact.{HeadIs}
use Rattle.mds_world.specs.World.{IsCurrent, IsKnownDay, World}
use Rattle.mds_keeper.specs.Books.{BookValue, IsDay, book_world}
use Rattle.mds_statements.specs.declared.selected.SelectedDay.{SelectedDay}
use Rattle.mds_registers.proofs.BookReadings.{day_reading_in, form_in}
use Rattle.mds_ranges.specs.Readings.{AreReadings}
use Rattle.mds_ranges.specs.Selections.{IsSelectedDay}

-- a known day is known in its book
pub unknown_here : (w : World) (book : BookValue) → IsDay w book → (IsKnownDay (book_world book) book.stream book.day → ⊥)
    → IsKnownDay w book.stream book.day → ⊥
unknown_here w book day none known = none (known.0, day.whole (HeadIs known.0) (known.2, known.3) known.1, known.2, known.3)

-- what is current in the book is current in the World, and the other way
current_in : (w : World) (book : BookValue) (minutes i u : ℕ) (r : ReadingValue) → IsDay w book
    → IsCurrent (book_world book) book.stream book.day minutes i u r → IsCurrent w book.stream book.day minutes i u r
current_in w book minutes i u r day current = record {
  held = day.only _ current.held;
  greatest = λ other of_other h. current.greatest other of_other (day.whole _ (refl, refl) h);
}

current_out : (w : World) (book : BookValue) (minutes i u : ℕ) (r : ReadingValue) → IsDay w book
    → IsCurrent w book.stream book.day minutes i u r → IsCurrent (book_world book) book.stream book.day minutes i u r
current_out w book minutes i u r day current = record {
  held = day.whole _ (refl, refl) current.held;
  greatest = λ other of_other h. current.greatest other of_other (day.only _ h);
}

pub latest_in : (w : World) (book : BookValue) (minutes u : ℕ) → IsDay w book
    → IsLatest (book_world book) book.stream book.day minutes u → IsLatest w book.stream book.day minutes u
latest_in w book minutes u day latest = record {
  held = (latest.held.0, latest.held.1, current_in w book minutes latest.held.0 u latest.held.1 day latest.held.2);
  greatest = λ i other r current. latest.greatest i other r (current_out w book minutes i other r day current);
}

-- the readings of a book that keeps them together, and a copy of them
pub readings_whole : {E : Type 0} (w : World) (book : BookValue) (count : ℕ) (own : List ReadingValue) (copy : Result (List ReadingValue) E)
    → IsDay w book → length own ≡ count
    → ((i : ℕ) (r : ReadingValue) → slice_get own i ≡ Some r → IsDayReading (book_world book) book.stream book.day (i + 1) r)
    → IfOk copy (λ c. c ≡ own) → IfOk copy (AreReadings w book.stream book.day count)
readings_whole w book count own (Ok c) is size shown e = subst (AreReadings w book.stream book.day count) (sym e) (record {
  count_is = size;
  each = λ i r h. day_reading_in w book (i + 1) r is (shown i r h);
})
readings_whole w book count own (Err x) is size shown e = tt

-- one more reading
pub readings_more : (w : World) (s : Stream) (d i : ℕ) (xs ys : List ReadingValue) (r : ReadingValue)
    → ys ≡ xs ++ r ∷ [] → AreReadings w s d i xs → IsDayReading w s d (i + 1) r → AreReadings w s d (i + 1) ys
readings_more w s d i xs ys r e readings is =
    let more : length ys ≡ i + 1 = ap length e ∙ length-append xs (r ∷ []) ∙ omega (arith, readings.count_is) in
    record {
      count_is = more;
      each = λ k q h.
          let value = get_or_from_slice_get ys k q q h in
          let within = slice_get_within ys k q h in
          elim (cases_lt k (length xs)) [
            | inl a ↦
                readings.each k q (slice_get-get_or xs k q a
                ∙ ap (λ z. Some z) (sym (get_or_append_left xs (r ∷ []) q k a) ∙ sym (ap (λ l. get_or l k q) e) ∙ value))
            | inr b ↦
                let last : k ≡ length xs = omega (arith, readings.count_is) in
                let at_i : i ≡ k = omega (arith, readings.count_is) in
                let same : r ≡ q = sym (get_or-append_seam xs r [] q) ∙ sym (ap (λ n. get_or (xs ++ r ∷ []) n q) last)
                ∙ sym (ap (λ l. get_or l k q) e) ∙ value in
                subst (λ n. IsDayReading w s d (n + 1) q) at_i (subst (IsDayReading w s d (i + 1)) same is)
          ];
    }

-- a day with the form, the latest update and the readings of its book, and its current details
pub selected_of : (w : World) (book : BookValue) (day : SelectedDay) → IsDay w book → day.date ≡ book.day
    → IsFormOf (book_world book) book.stream book.day day.length day.unit → IsCurrentDetails w book.stream book.day day.details
    → ((minutes : ℕ) (unit : MeasureUnit) → IsFormOf (book_world book) book.stream book.day minutes unit
    → IsLatest (book_world book) book.stream book.day minutes day.update)
    → AreReadings w book.stream book.day (count_of day.length) day.readings → IsSelectedDay w book.stream day
selected_of w book day is at some details latest readings = record {
  form = subst (λ n. IsFormOf w book.stream n day.length day.unit) (sym at)
      (form_in w book day.length day.unit is some);
  details = subst (λ n. IsCurrentDetails w book.stream n day.details) (sym at) details;
  update = subst (λ n. IsLatest w book.stream n day.length day.update) (sym at) (latest_in w book day.length day.update is
      (latest day.length day.unit some));
  readings = subst (λ n. AreReadings w book.stream n (count_of day.length) day.readings) (sym at) readings;
}

-- What a day's book says of the current readings of its World.
use Rattle.std.proofs.Common.{◌≡◌, ℕ, true, false, nat_eq, refl, sym, ap, ◌∙◌, inl, inr, arith}
use Rattle.std.specs.Bool.{MatchBool}
use Rattle.std.proofs.lemmas.Bool.{eqb-true, eqb-false}
use Rattle.mds_calendar.specs.Length.{count_of}
use Rattle.mds_quantity.specs.declared.unit.Unit.{Unit as MeasureUnit}
use Rattle.mds_names.specs.declared.stream.Stream.{Stream}
use Rattle.mds_marks.specs.Quality.{final, null}
use Rattle.mds_marks.specs.Reading.{ReadingValue}
use Rattle.mds_marks.specs.declared.mark.Mark.{Mark}
use Rattle.mds_world.specs.Current.{IsDayReading, IsFormOf, IsReading, no_reading}
use Rattle.mds_world.specs.Facts.{Fact}
use Rattle.mds_world.specs.Facts.Fact.{HeadIs}
use Rattle.mds_world.specs.Sets.{◌∈◌}
use Rattle.mds_world.specs.World.{IsKnownDay, IsLawful, IsOn, World}
use Rattle.mds_world.proofs.Forms.{form_known, one_day_reading, one_size}
use Rattle.mds_keeper.specs.Books.{BookValue, IsDay, book_world}
use Rattle.mds_registers.specs.Stretches.{HasIntervals, IsFinalWith, IsNull}

-- Worlds that have the same facts of a day have the same form of it, and show the same readings
module _ (w v : World) (s : Stream) (d : ℕ) (there : (f : Fact) → IsOn s d f → f ∈ w → f ∈ v)
    (back : (f : Fact) → IsOn s d f → f ∈ v → f ∈ w) where
  form_there : (m : ℕ) (unit : MeasureUnit) → IsFormOf w s d m unit → IsFormOf v s d m unit
  form_there m unit (head, is, length, same) = (
    head,
    record {
      held = (there (HeadIs head) (is.held.1, is.held.2) is.held.0, is.held.1, is.held.2);
      greatest = λ other h. is.greatest other (back (HeadIs other) (h.1, h.2) h.0, h.1, h.2);
    },
    length,
    same,
  )

  reading_there : (m i : ℕ) (r : ReadingValue) → IsReading w s d m i r → IsReading v s d m i r
  reading_there m i r (inl x) = inl (
    x.0,
    record {
      held = there _ (refl, refl) x.1.held;
      greatest = λ other of_other h. x.1.greatest other of_other (back _ (refl, refl) h);
    },
  )
  reading_there m i r (inr x) = inr ((λ u q h. x.0 u q (back _ (refl, refl) h)), x.1)

  day_reading_there : (i : ℕ) (r : ReadingValue) → IsDayReading w s d i r → IsDayReading v s d i r
  day_reading_there i r (inl x) = inl (x.0, x.1, form_there x.0 x.1 x.2, reading_there x.0 i r x.3)
  day_reading_there i r (inr x) = inr (
    (λ known. x.0 (known.0, back (HeadIs known.0) (known.2, known.3) known.1, known.2, known.3)),
    x.1,
  )

-- the form of a book is that of its day, and the other way
pub form_in : (w : World) (book : BookValue) (m : ℕ) (unit : MeasureUnit) → IsDay w book
    → IsFormOf (book_world book) book.stream book.day m unit → IsFormOf w book.stream book.day m unit
form_in w book m unit is =
    form_there (book_world book) w book.stream book.day (λ f on h. is.only f h) is.whole m unit

pub form_out : (w : World) (book : BookValue) (m : ℕ) (unit : MeasureUnit) → IsDay w book
    → IsFormOf w book.stream book.day m unit → IsFormOf (book_world book) book.stream book.day m unit
form_out w book m unit is =
    form_there w (book_world book) book.stream book.day is.whole (λ f on h. is.only f h) m unit

-- the reading that a book shows of an interval is that of its day, and the other way
pub day_reading_in : (w : World) (book : BookValue) (i : ℕ) (r : ReadingValue) → IsDay w book
    → IsDayReading (book_world book) book.stream book.day i r → IsDayReading w book.stream book.day i r
day_reading_in w book i r is =
    day_reading_there (book_world book) w book.stream book.day (λ f on h. is.only f h) is.whole i r

day_reading_out : (w : World) (book : BookValue) (i : ℕ) (r : ReadingValue) → IsDay w book
    → IsDayReading w book.stream book.day i r → IsDayReading (book_world book) book.stream book.day i r
day_reading_out w book i r is =
    day_reading_there w (book_world book) book.stream book.day is.whole (λ f on h. is.only f h) i r

-- a day shows one reading of an interval
one_reading : (w : World) (book : BookValue) (i : ℕ) (a b : ReadingValue) → IsDay w book → IsLawful (book_world book)
    → IsDayReading w book.stream book.day i a → IsDayReading w book.stream book.day i b → a ≡ b
one_reading w book i a b is lawful x y =
    one_day_reading (book_world book) book.stream book.day i a b lawful.agrees (day_reading_out w book i a is x)
    (day_reading_out w book i b is y)

-- whether an interval is null, by the flag of its reading
pub null_by : (w : World) (book : BookValue) (i : ℕ) (r : ReadingValue) (flag : ℕ) → IsDay w book
    → IsLawful (book_world book) → IsDayReading (book_world book) book.stream book.day i r → flag ≡ r.mark.quality.flag
    → MatchBool (nat_eq flag null) (IsNull w book.stream book.day i) (IsNull w book.stream book.day i → ⊥)
null_by w book i r flag is lawful shown e =
    let N = IsNull w book.stream book.day i in
    let here = day_reading_in w book i r is shown in
    elim (nat_eq flag null) as (λ b. nat_eq flag null ≡ b → MatchBool b N (N → ⊥)) [
      | true ↦ λ h. (r, here, sym e ∙ eqb-true flag null h)
      | false ↦ λ h n. eqb-false flag null h
          (e ∙ ap (λ (x : ReadingValue). x.mark.quality.flag) (one_reading w book i r n.0 is lawful here n.1) ∙ n.2)
    ] refl

pub null_without : (w : World) (book : BookValue) (i : ℕ) → IsDay w book
    → IsDayReading (book_world book) book.stream book.day i no_reading → IsNull w book.stream book.day i
null_without w book i is shown = (no_reading, day_reading_in w book i no_reading is shown, refl)

-- an interval whose reading is final, and one whose reading isn't
pub final_by : (w : World) (book : BookValue) (i : ℕ) (r : ReadingValue) (mark : Mark) (flag : ℕ) → IsDay w book
    → IsDayReading (book_world book) book.stream book.day i r → mark ≡ r.mark → flag ≡ mark.quality.flag → flag ≡ final
    → IsFinalWith w book.stream book.day mark i
final_by w book i r mark flag is shown e f g = (
  r,
  day_reading_in w book i r is shown,
  sym (ap (λ (m : Mark). m.quality.flag) e) ∙ sym f ∙ g,
  sym e,
)

pub not_final : (w : World) (book : BookValue) (i : ℕ) (r : ReadingValue) (mark : Mark) (flag : ℕ) → IsDay w book
    → IsLawful (book_world book) → IsDayReading (book_world book) book.stream book.day i r → mark ≡ r.mark
    → flag ≡ mark.quality.flag → (flag ≡ final → ⊥) → (other : Mark) → IsFinalWith w book.stream book.day other i → ⊥
not_final w book i r mark flag is lawful shown e f g other h =
    let same = one_reading w book i r h.0 is lawful (day_reading_in w book i r is shown) h.1 in
    g (f ∙ ap (λ (m : Mark). m.quality.flag) e ∙ ap (λ (x : ReadingValue). x.mark.quality.flag) same ∙ h.2)

pub final_without : (w : World) (book : BookValue) (i : ℕ) → IsDay w book → IsLawful (book_world book)
    → IsDayReading (book_world book) book.stream book.day i no_reading → (other : Mark)
    → IsFinalWith w book.stream book.day other i → ⊥
final_without w book i is lawful shown other h =
    let same = one_reading w book i no_reading h.0 is lawful (day_reading_in w book i no_reading is shown) h.1 in
    let e : null ≡ final = ap (λ (x : ReadingValue). x.mark.quality.flag) same ∙ h.2 in
    absurd (omega arith)

-- an interval is final under one mark
pub one_mark : (w : World) (book : BookValue) (i : ℕ) (a b : Mark) → IsDay w book → IsLawful (book_world book)
    → IsFinalWith w book.stream book.day a i → IsFinalWith w book.stream book.day b i → a ≡ b
one_mark w book i a b is lawful x y =
    sym x.3 ∙ ap (λ (r : ReadingValue). r.mark) (one_reading w book i x.0 y.0 is lawful x.1 y.1) ∙ y.3

-- a day that isn't known in its book isn't known
pub is_unknown : (w : World) (book : BookValue) → IsDay w book → (IsKnownDay (book_world book) book.stream book.day → ⊥)
    → IsKnownDay w book.stream book.day → ⊥
is_unknown w book is none known = none (known.0, is.whole (HeadIs known.0) (known.2, known.3) known.1, known.2, known.3)

-- a day has as many intervals as the form of its book says
pub has_intervals : (w : World) (book : BookValue) (form : ℕ × MeasureUnit) → IsDay w book
    → IsFormOf (book_world book) book.stream book.day form.0 form.1 → HasIntervals w book.stream book.day (count_of form.0)
has_intervals w book form is some = (form.0, form.1, form_in w book form.0 form.1 is some, refl)

pub count_is : (w : World) (book : BookValue) (form : ℕ × MeasureUnit) (count : ℕ) → IsDay w book → IsLawful (book_world book)
    → IsFormOf (book_world book) book.stream book.day form.0 form.1 → HasIntervals w book.stream book.day count
    → count ≡ count_of form.0
count_is w book form count is lawful some (length, unit, of_day, same) =
    let size = one_size (book_world book) book.stream book.day length form.0 unit form.1 lawful.agrees
    (form_out w book length unit is of_day) some in
    sym same ∙ ap count_of size.0

-- a day that has intervals is known
pub known_by_count : (w : World) (stream : Stream) (day count : ℕ) → HasIntervals w stream day count → IsKnownDay w stream day
known_by_count w stream day count has = form_known w stream day has.0 has.1 has.2

-- What laws of the crates above need of the register of readings.
use Rattle.std.proofs.Common.{◌≡◌, ℕ, zero, suc, ◌≤◌, List, [], ◌∷◌, ◌++◌, get_or, Some, sym, ap, ◌∙◌, subst, inl, inr, arith, append_assoc, append-nil}
use Rattle.std.proofs.lemmas.Bool.{cases_lt}
use Rattle.csv.specs.Writing.{default_writer, row_text}
use Rattle.mds_calendar.specs.Length.{count_of}
use Rattle.mds_calendar.proofs.Days.{one_day_text}
use Rattle.mds_calendar.proofs.Moments.{one_moment_text}
use Rattle.mds_quantity.specs.declared.unit.Unit.{Unit as MeasureUnit}
use Rattle.mds_names.specs.declared.stream.Stream.{Stream}
use Rattle.mds_marks.specs.Reading.{ReadingValue}
use Rattle.mds_world.specs.Current.{IsDayReading, IsFormOf}
use Rattle.mds_world.specs.Lists.{Member}
use Rattle.mds_world.specs.World.{Agrees, World}
use Rattle.mds_world.proofs.Forms.{one_size}
use Rattle.mds_world.proofs.Lists.{map_in}
use Rattle.mds_world.proofs.Worlds.{one_reading}
use Rattle.mds_keeper.specs.Books.{BookValue}
use Rattle.mds_keeper.specs.Queries.{AreDaysOf}
use Rattle.mds_keeper.proofs.BookPlaces.{member_at}
use Rattle.mds_registers.specs.Readings.{AreDayTexts, AreIntervalRows, AreKnownDays, IsDayText, IsReadingsText, IsShown, reading_fields, readings_head}

-- the books of a query are of known days
pub known_books : (w : World) (stream : Stream) (first last : ℕ) (books : List BookValue) → AreDaysOf w stream first last books
    → AreKnownDays w stream books
known_books w stream first last books are k d within =
    let of = are.each k d within in
    let shown = (are.known (get_or books k d).day).0 (map_in (λ (book : BookValue). book.day) books (get_or books k d) (member_at books k d within)) in
    (of.0, of.1, shown.2)

-- what is shown of an interval is its reading
pub shown_reading : (w : World) (stream : Stream) (day m i : ℕ) (unit : MeasureUnit) (reading : ReadingValue) (text : List ℕ)
    → IsFormOf w stream day m unit → IsShown w stream day m i reading text → IsDayReading w stream day i reading
shown_reading w stream day m i unit reading text form (inl x) = inl (m, unit, form, inl (x.0, x.1))
shown_reading w stream day m i unit reading text form (inr x) = inl (m, unit, form, inr (x.0, x.1))

-- the row of an interval is in the rows of its day, and shows its reading
abbrev pub HasRowOf : World → Stream → (day : ℕ) → (date : List ℕ) → (length : ℕ) → MeasureUnit → (interval : ℕ) → List ℕ → Type 0
HasRowOf w stream day date length unit interval text =
    (before : List ℕ) × (reading : ReadingValue) × (update : List ℕ) × (behind : List ℕ)
    × IsShown w stream day length interval reading update × IsDayReading w stream day interval reading
    × (text ≡ before ++ row_text default_writer (reading_fields stream date length unit interval reading update) ++ behind)

pub row_at : (w : World) (stream : Stream) (day : ℕ) (date : List ℕ) (m : ℕ) (unit : MeasureUnit) (n i : ℕ) (text : List ℕ)
    → IsFormOf w stream day m unit → 1 ≤ i → i ≤ n → AreIntervalRows w stream day date m unit n text
    → HasRowOf w stream day date m unit i text
row_at w stream day date m unit zero i text form low high rows = absurd (omega arith)
row_at w stream day date m unit (suc n) i text form low high rows =
    let row = row_text default_writer (reading_fields stream date m unit (suc n) rows.1 rows.2) in
    elim (cases_lt i (suc n)) [
      | inl a ↦
          let below : i ≤ n = omega arith in
          let of = row_at w stream day date m unit n i rows.0 form low below rows.3 in
          let here = row_text default_writer (reading_fields stream date m unit i of.1 of.2) in (
            of.0,
            of.1,
            of.2,
            of.3 ++ row,
            of.4,
            of.5,
            rows.5 ∙ ap (λ (t : List ℕ). t ++ row) of.6 ∙ append_assoc (of.0 ++ here) of.3 row,
          )
      | inr b ↦
          let last : suc n ≡ i = omega arith in
          subst (λ k. HasRowOf w stream day date m unit k text) last (
            rows.0,
            rows.1,
            rows.2,
            [],
            rows.4,
            shown_reading w stream day m (suc n) unit rows.1 rows.2 form rows.4,
            rows.5 ∙ sym (append-nil (rows.0 ++ row)),
          )
    ]

-- the rows of a day are in those of several
pub day_at : (w : World) (stream : Stream) (days : List ℕ) (day : ℕ) (text : List ℕ) → Member day days
    → AreDayTexts w stream days text
    → (before one behind : List ℕ) × IsDayText w stream day one × (text ≡ before ++ one ++ behind)
day_at w stream [] day text m are = absurd m
day_at w stream (x ∷ xs) day text (inl e) are =
    ([], are.0, are.1, subst (λ d. IsDayText w stream d are.0) (sym e) are.2, are.4)
day_at w stream (x ∷ xs) day text (inr m) are =
    let of = day_at w stream xs day are.1 m are.3 in
    let here = sym (append_assoc are.0 (of.0 ++ of.1) of.2)
    ∙ ap (λ (t : List ℕ). t ++ of.2) (sym (append_assoc are.0 of.0 of.1)) in
    (are.0 ++ of.0, of.1, of.2, of.3, are.4 ∙ ap (λ (t : List ℕ). are.0 ++ t) of.4 ∙ here)

-- one thing is shown of an interval
one_shown : (w : World) (stream : Stream) (day m i : ℕ) (r q : ReadingValue) (a b : List ℕ) → Agrees w
    → IsShown w stream day m i r a → IsShown w stream day m i q b → (r ≡ q) × (a ≡ b)
one_shown w stream day m i r q a b agrees (inl x) (inl y) =
    let same = one_reading w stream day m i x.0 y.0 r q agrees x.1 y.1 in
    (same.1, one_moment_text a b y.0 (x.2 ∙ ap Some same.0) y.2)
one_shown w stream day m i r q a b agrees (inl x) (inr y) = absurd (y.0 x.0 r x.1.held)
one_shown w stream day m i r q a b agrees (inr x) (inl y) = absurd (x.0 y.0 q y.1.held)
one_shown w stream day m i r q a b agrees (inr x) (inr y) = (x.1 ∙ sym y.1, x.2 ∙ sym y.2)

one_rows : (w : World) (stream : Stream) (day : ℕ) (date : List ℕ) (m : ℕ) (unit : MeasureUnit) (n : ℕ) (a b : List ℕ)
    → Agrees w → AreIntervalRows w stream day date m unit n a → AreIntervalRows w stream day date m unit n b → a ≡ b
one_rows w stream day date m unit zero a b agrees x y = x ∙ sym y
one_rows w stream day date m unit (suc n) a b agrees x y =
    let before = one_rows w stream day date m unit n x.0 y.0 agrees x.3 y.3 in
    let same = one_shown w stream day m (suc n) x.1 y.1 x.2 y.2 agrees x.4 y.4 in
    let row : x.0 ++ row_text default_writer (reading_fields stream date m unit (suc n) x.1 x.2)
    ≡ y.0 ++ row_text default_writer (reading_fields stream date m unit (suc n) y.1 y.2) =
    λ k. before k ++ row_text default_writer (reading_fields stream date m unit (suc n) (same.0 k) (same.1 k)) in
    x.5 ∙ row ∙ sym y.5

one_day : (w : World) (stream : Stream) (day : ℕ) (a b : List ℕ) → Agrees w → IsDayText w stream day a
    → IsDayText w stream day b → a ≡ b
one_day w stream day a b agrees x y =
    let date = one_day_text x.0 y.0 day x.3 y.3 in
    let form = one_size w stream day x.1 y.1 x.2 y.2 agrees x.4 y.4 in
    one_rows w stream day x.0 x.1 x.2 (count_of x.1) a b agrees x.5
    (subst (λ d. AreIntervalRows w stream day d x.1 x.2 (count_of x.1) b) (sym date)
    (subst (λ m. AreIntervalRows w stream day y.0 m x.2 (count_of m) b) (sym form.0)
    (subst (λ u. AreIntervalRows w stream day y.0 y.1 u (count_of y.1) b) (sym form.1) y.5)))

one_days : (w : World) (stream : Stream) (days : List ℕ) (a b : List ℕ) → Agrees w → AreDayTexts w stream days a
    → AreDayTexts w stream days b → a ≡ b
one_days w stream [] a b agrees x y = x ∙ sym y
one_days w stream (day ∷ days) a b agrees x y =
    let one = one_day w stream day x.0 y.0 agrees x.2 y.2 in
    let rest = one_days w stream days x.1 y.1 agrees x.3 y.3 in
    let all : x.0 ++ x.1 ≡ y.0 ++ y.1 = λ k. one k ++ rest k in
    x.4 ∙ all ∙ sym y.4

-- a World without contradictions has one register of a stream's readings on these days
pub one_readings_text : (w : World) (stream : Stream) (days : List ℕ) (a b : List ℕ) → Agrees w
    → IsReadingsText w stream days a → IsReadingsText w stream days b → a ≡ b
one_readings_text w stream days a b agrees x y =
    let rest = one_days w stream days x.0 y.0 agrees x.2 y.2 in
    x.1 ∙ ap (λ (t : List ℕ). row_text default_writer readings_head ++ t) rest ∙ sym y.1

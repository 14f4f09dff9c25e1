-- What an export selects is determined, and its text with it.
use Rattle.std.specs.Prelude.{◌≡◌, ℕ, ◌+◌, ◌<◌, List, [], ◌∷◌, ◌++◌, map, Option, Some, None, ◌==◌, ◌&&◌, if◌then◌else◌, bytes_eq}
use Rattle.std.proofs.Common.{sym, ap, ◌∙◌, subst, arith, refl}
use Rattle.std.specs.Cmp.{IsTotalOrder, on_total, then_total}
use Rattle.std.specs.Cmp.Lexicographic.{nat_list_cmp_total}
use Rattle.std.specs.List.{All}
use Rattle.std.specs.Ordering.{eq_by_cmp}
use Rattle.std.specs.declared.cmp.Ordering.TheVariants.{Less}
use Rattle.std.proofs.lemmas.List.Elements.{All-head, All-tail}
use Rattle.mds_calendar.specs.Length.{count_of}
use Rattle.mds_quantity.specs.Unit.{unit_text}
use Rattle.mds_names.specs.declared.stream.Stream.{Stream}
use Rattle.mds_terms.specs.Details.{details_cmp}
use Rattle.mds_world.proofs.Details.{one_details}
use Rattle.mds_world.proofs.Forms.{one_day_reading, one_size}
use Rattle.mds_world.specs.Current.{IsCurrentDetails, IsDayReading, IsFormOf, IsLatest}
use Rattle.mds_world.specs.World.{Agrees, World}
use Rattle.mds_statements.specs.Statements.{HeaderValue}
use Rattle.mds_statements.specs.Selected.{stream_cmp}
use Rattle.mds_statements.specs.declared.selected.SelectedDay.{SelectedDay}
use Rattle.mds_statements.specs.declared.selected.SelectedStream.{SelectedStream}
use Rattle.mds_export.specs.Rows.{DayRow, DetailsRow, RowValue}
use Rattle.mds_export.specs.Placed.{PlacedDay, is_governed, placed_after, placed_days}
use Rattle.mds_export.specs.Exports.{AreDayRows, AreFewest, AreInTurn, IsExport, mark_of_all, marks_of, run_rows}
use Rattle.mds_export.proofs.OneText.{one_text}
use Rattle.mds_ranges.proofs.Pairs.{map_pairs}
use Rattle.mds_ranges.specs.Selections.{AreSelectedDays, IsSelectedDay, IsSelectedStream, IsSelection}
use Rattle.mds_laws.specs.Determined.{OneByOne}
use Rattle.mds_laws.proofs.OneList.{both_fit, not_both_less, one_ascending, one_by_places, same_first}
use Rattle.mds_laws.proofs.ReturnedReadings.{one_latest}

-- Two days, and two streams, that are the same but for where their readings and days lie.
record IsSameDay (a b : SelectedDay) : Type 0 where
  date : a.date ≡ b.date
  length : a.length ≡ b.length
  unit : a.unit ≡ b.unit
  details : a.details ≡ b.details
  update : a.update ≡ b.update
  readings : a.readings ≡ b.readings

record IsSameStream (a b : SelectedStream) : Type 0 where
  stream : a.stream ≡ b.stream
  days : OneByOne IsSameDay a.days.items b.days.items

-- the date of a day, and the stream of a selected one
abbrev date_of : SelectedDay → ℕ
date_of day = day.date

abbrev stream_of : SelectedStream → Stream
stream_of selected = selected.stream

-- ---- what is selected

module _ (w : World) (agrees : Agrees w) where
  -- a day of a stream is selected in one way
  day_at : (s t : Stream) (a b : SelectedDay) → s ≡ t → a.date ≡ b.date → IsSelectedDay w s a → IsSelectedDay w t b
      → IsSameDay a b
  day_at s t a b same date x y =
      let known : IsFormOf w t b.date a.length a.unit =
      subst (λ d. IsFormOf w t d a.length a.unit) date (subst (λ z. IsFormOf w z a.date a.length a.unit) same x.form) in
      let form = one_size w t b.date a.length b.length a.unit b.unit agrees known y.form in record {
        date = date;
        length = form.0;
        unit = form.1;
        details = one_details w t b.date a.details b.details
            (subst (λ d. IsCurrentDetails w t d a.details) date (subst (λ z. IsCurrentDetails w z a.date a.details) same x.details))
            y.details;
        update = one_latest w t b.date b.length a.update b.update
            (subst (λ m. IsLatest w t b.date m a.update) form.0
            (subst (λ d. IsLatest w t d a.length a.update) date
            (subst (λ z. IsLatest w z a.date a.length a.update) same x.update)))
            y.update;
        readings = one_by_places a.readings b.readings
            (x.readings.count_is ∙ ap count_of form.0 ∙ sym y.readings.count_is)
            (λ k p q e f. one_day_reading w t b.date (k + 1) p q agrees
            (subst (λ d. IsDayReading w t d (k + 1) p) date
            (subst (λ z. IsDayReading w z a.date (k + 1) p) same (x.readings.each k p e)))
            (y.readings.each k q f));
      }

  days_at : (s t : Stream) (xs ys : List SelectedDay) → s ≡ t
      → map date_of xs ≡ map date_of ys
      → All (IsSelectedDay w s) xs → All (IsSelectedDay w t) ys → OneByOne IsSameDay xs ys
  days_at s t [] [] same dates a b = tt
  days_at s t [] (y ∷ ys) same dates a b = cc
  days_at s t (x ∷ xs) [] same dates a b = cc
  days_at s t (x ∷ xs) (y ∷ ys) same dates a b =
      let e = same_first x.date y.date (map date_of xs) (map date_of ys) dates in (
        day_at s t x y same e.0 (All-head (IsSelectedDay w s) x xs a) (All-head (IsSelectedDay w t) y ys b),
        days_at s t xs ys same e.1 (All-tail (IsSelectedDay w s) x xs a) (All-tail (IsSelectedDay w t) y ys b),
      )

  before_not : (m n : ℕ) → m < n → n < m → ⊥
  before_not m n less more = omega (arith, less, more)

  -- the dates of a stream are one list
  one_dates : (s t : Stream) (first last : ℕ) (xs ys : List SelectedDay) → s ≡ t → AreSelectedDays w s first last xs
      → AreSelectedDays w t first last ys
      → map date_of xs ≡ map date_of ys
  one_dates s t first last xs ys same a b =
      let c = subst (λ z. AreSelectedDays w z first last xs) same a in
      one_ascending (λ m n. m < n) before_not (map date_of xs) (map date_of ys)
      (map_pairs date_of (λ m n. m < n) xs a.ascending)
      (map_pairs date_of (λ m n. m < n) ys b.ascending)
      (λ d m. (b.known d).1 ((c.known d).0 m))
      (λ d m. (c.known d).1 ((b.known d).0 m))

  module _ (first last : ℕ) where
    stream_at : (a b : SelectedStream) → a.stream ≡ b.stream → IsSelectedStream w first last a
        → IsSelectedStream w first last b → IsSameStream a b
    stream_at a b same x y = record {
      stream = same;
      days = days_at a.stream b.stream a.days.items b.days.items same
          (one_dates a.stream b.stream first last a.days.items b.days.items same x y) x.each y.each;
    }

    streams_at : (xs ys : List SelectedStream)
        → map stream_of xs ≡ map stream_of ys
        → All (IsSelectedStream w first last) xs → All (IsSelectedStream w first last) ys → OneByOne IsSameStream xs ys
    streams_at [] [] same a b = tt
    streams_at [] (y ∷ ys) same a b = cc
    streams_at (x ∷ xs) [] same a b = cc
    streams_at (x ∷ xs) (y ∷ ys) same a b =
        let e = same_first x.stream y.stream (map stream_of xs)
        (map stream_of ys) same in (
          stream_at x y e.0 (All-head (IsSelectedStream w first last) x xs a)
              (All-head (IsSelectedStream w first last) y ys b),
          streams_at xs ys e.1 (All-tail (IsSelectedStream w first last) x xs a)
              (All-tail (IsSelectedStream w first last) y ys b),
        )

pub stream_total : IsTotalOrder stream_cmp
stream_total =
    then_total (on_total (λ (s : Stream). s.nmi) nat_list_cmp_total) (on_total (λ (s : Stream). s.suffix) nat_list_cmp_total)

-- streams that are selected are the same
one_selection : (w : World) → Agrees w → (nmi : List ℕ) (suffixes : List (List ℕ)) (first last : ℕ)
    (xs ys : List SelectedStream) → IsSelection w nmi suffixes first last xs → IsSelection w nmi suffixes first last ys
    → OneByOne IsSameStream xs ys
one_selection w agrees nmi suffixes first last xs ys a b =
    streams_at w agrees first last xs ys
    (one_ascending (λ p q. stream_cmp p q ≡ Less) (not_both_less stream_cmp stream_total)
    (map stream_of xs) (map stream_of ys)
    (map_pairs stream_of (λ p q. stream_cmp p q ≡ Less) xs a.ascending)
    (map_pairs stream_of (λ p q. stream_cmp p q ≡ Less) ys b.ascending)
    (λ s m. (b.named s).1 ((a.named s).0 m))
    (λ s m. (a.named s).1 ((b.named s).0 m)))
    a.each b.each

-- ---- its text

-- two days of streams that have the same rows
record IsSamePlaced (p q : PlacedDay) : Type 0 where
  stream : p.selected.stream ≡ q.selected.stream
  governed : is_governed p.before p.day ≡ is_governed q.before q.day
  same : IsSameDay p.day q.day

rows_of : (p q : PlacedDay) (rows : List RowValue) → IsSamePlaced p q → AreDayRows p rows → AreDayRows q rows
rows_of p q rows s (runs, fewest, is) =
    let d = s.same in (
      runs,
      subst (λ readings. AreFewest (marks_of readings) runs) d.readings fewest,
      is ∙ (λ i.
          (if s.governed i then []
          else DetailsRow (s.stream i) (d.details i) (d.unit i) (d.length i) ∷ [])
          ++ DayRow (d.date i) (d.readings i) (mark_of_all runs) (d.update i) ∷ run_rows runs),
    )

-- so that lists of them have
rows_of_all : (ps qs : List PlacedDay) (rows : List RowValue) → OneByOne IsSamePlaced ps qs → AreInTurn AreDayRows ps rows
    → AreInTurn AreDayRows qs rows
rows_of_all [] [] rows m are = are
rows_of_all [] (q ∷ qs) rows m are = absurd m
rows_of_all (p ∷ ps) [] rows m are = absurd m
rows_of_all (p ∷ ps) (q ∷ qs) rows (s, m) (part, rest, is, of, others) =
    (part, rest, is, rows_of p q part s of, rows_of_all ps qs rest m others)

-- the day before is the same, or there is none
IsSameBefore : Option SelectedDay → Option SelectedDay → Type 0
IsSameBefore None None = Unit {0}
IsSameBefore (Some a) (Some b) = IsSameDay a b
IsSameBefore a b = ⊥

governed_by : (a b : Option SelectedDay) (x y : SelectedDay) → IsSameBefore a b → IsSameDay x y
    → is_governed a x ≡ is_governed b y
unfolding IsSameBefore
governed_by None None x y m s = refl
governed_by None (Some b) x y m s = absurd m
governed_by (Some a) None x y m s = absurd m
governed_by (Some a) (Some b) x y m s =
    λ i. (m.length i == s.length i) && bytes_eq (unit_text (m.unit i)) (unit_text (s.unit i))
    && eq_by_cmp details_cmp (m.details i) (s.details i)

placed_same : (s t : SelectedStream) (a b : Option SelectedDay) (xs ys : List SelectedDay) → s.stream ≡ t.stream
    → IsSameBefore a b → OneByOne IsSameDay xs ys
    → OneByOne IsSamePlaced (placed_after s a xs) (placed_after t b ys)
unfolding IsSameBefore
placed_same s t a b [] [] stream m same = tt
placed_same s t a b [] (y ∷ ys) stream m same = absurd same
placed_same s t a b (x ∷ xs) [] stream m same = absurd same
placed_same s t a b (x ∷ xs) (y ∷ ys) stream m (one, same) = (
  record { stream = stream; governed = governed_by a b x y m one; same = one },
  placed_same s t (Some x) (Some y) xs ys stream one same,
)

all_placed : (xs ys : List SelectedStream) → OneByOne IsSameStream xs ys → OneByOne IsSamePlaced (placed_days xs) (placed_days ys)
unfolding IsSameBefore
all_placed [] [] m = tt
all_placed [] (y ∷ ys) m = absurd m
all_placed (x ∷ xs) [] m = absurd m
all_placed (x ∷ xs) (y ∷ ys) (s, m) =
    both_fit IsSamePlaced (placed_after x None x.days.items) (placed_after y None y.days.items) (placed_days xs)
    (placed_days ys) (placed_same x y None None x.days.items y.days.items s.stream tt s.days) (all_placed xs ys m)

-- an export has one text
pub one_export : (w : World) → Agrees w → (nmi : List ℕ) (suffixes : List (List ℕ)) (first last : ℕ) (header : HeaderValue)
    (xs ys : List SelectedStream) (a b : List ℕ) → IsSelection w nmi suffixes first last xs
    → IsSelection w nmi suffixes first last ys → IsExport header xs a → IsExport header ys b → a ≡ b
one_export w agrees nmi suffixes first last header xs ys a b x y p q =
    let same = one_selection w agrees nmi suffixes first last xs ys x y in
    let moved : IsExport header ys a = record {
      rows = p.rows;
      of_days = rows_of_all (placed_days xs) (placed_days ys) p.rows (all_placed xs ys same) p.of_days;
      lines = p.lines;
    } in
    one_text header ys a b moved q

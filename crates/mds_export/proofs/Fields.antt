-- The texts of fields, and rows as lines of them.
use Rattle.std.proofs.Common.{◌≡◌, ℕ, ◌<◌, ◌≤◌, ◌+◌, ◌*◌, ◌/◌, ◌%◌, ◌==◌, inl, inr, true, false, List, [], ◌∷◌, ◌++◌, length, length-append, append_assoc, codes, take, drop, map, refl, sym, ap, ◌∙◌, arith, Option, Some, None, get_or, decimal, zero, suc, ℤ, pos, unsigned_abs, unwrap_or, of_z, to_z, w64}
use Rattle.std.specs.Char.{is_ascii_digit}
use Rattle.std.proofs.lemmas.Int.{fits_signed_from_abs, to_z-of_z}
use Rattle.std.specs.List.{All, list_all}
use Rattle.std.proofs.lemmas.List.Elements.{All-cons, All-nil}
use Rattle.std.specs.Str.Parse.{digits_value}
use Rattle.std.proofs.lemmas.Bool.Decides.{nat_tests}
use Rattle.std.proofs.lemmas.List.{take-append-drop, take_all, length-take-le, length-drop, take_more}
use Rattle.std.proofs.lemmas.List.Folds.{list_all-append}
use Rattle.std.proofs.lemmas.Grind.{flat_map-append}
use Rattle.std.proofs.lemmas.List.{append-nil, length-map}
use Rattle.mds_terms.specs.Parts.{joined, optional}
use Rattle.mds_terms.specs.Details.{DetailsValue}
use Rattle.mds_names.specs.declared.stream.Stream.{Stream}
use Rattle.mds_quantity.specs.Unit.{unit_text}
use Rattle.mds_quantity.specs.declared.unit.Unit.{Unit as MeasureUnit}
use Rattle.mds_calendar.specs.Calendar.{are_digits, date_time_of, day_of, moment_of, number_at}
use Rattle.mds_calendar.proofs.Digits.{both, same_digits}
use Rattle.mds_calendar.specs.Length.{is_length}
use Rattle.mds_calendar.proofs.Lengths.{cases_length, decimal_5, decimal_15, decimal_30}
use Rattle.mds_calendar.proofs.Moments.{date_time_short, date_time_other, moment_parts, time_parts}
use Rattle.mds_quantity.specs.Append.{Appends}
use Rattle.mds_quantity.specs.Quantity.{limit, written}
use Rattle.mds_marks.specs.Mark.{is_mark}
use Rattle.mds_marks.specs.Reading.{ReadingValue, is_lawful, is_reading, is_value}
use Rattle.mds_marks.specs.declared.mark.Mark.{Mark}
use Rattle.mds_export.specs.Rows.{DayRow, DetailsRow, HeaderRow, IsHeaderMoment, IsRowText, line_of, own_fields, value_field}
use Rattle.mds_export.specs.RowSteps.{closed, value_texts}

-- the end of digits is of digits
digits_end : (n : ℕ) (text : List ℕ) → list_all is_ascii_digit text ≡ true → list_all is_ascii_digit (drop n text) ≡ true
digits_end n text h =
    (both (list_all is_ascii_digit (take n text)) (list_all is_ascii_digit (drop n text))
    (sym (list_all-append is_ascii_digit (take n text) (drop n text)) ∙ ap (list_all is_ascii_digit) (take-append-drop n text) ∙ h)).1

fourteen : (text : List ℕ) → are_digits 14 text ≡ true → (length text ≡ 14) × (list_all is_ascii_digit text ≡ true)
fourteen text h =
    let p = both (length text == 14) (list_all is_ascii_digit text) h in
    (grind (arith, nat_tests, p.0), p.1)

no_seconds : (d h m s n : ℕ) → s < 60 → d * 86400 + h * 3600 + m * 60 + s ≡ n → n % 60 ≡ 0 → s ≡ 0
no_seconds d h m s n less e even = omega arith

-- the last two digits of a moment whose seconds are 00
last_zeros : (digits : List ℕ) (moment : ℕ) → moment_of digits ≡ Some moment → moment % 60 ≡ 0 → (length digits ≡ 14) × (drop 12 digits ≡ codes "00")
last_zeros digits moment e even =
    let p = moment_parts digits moment e in
    let all = fourteen digits p.1.1 in
    let time = time_parts (number_at 8 2 digits) (number_at 10 2 digits) (number_at 12 2 digits) p.1.2 in
    let s = no_seconds p.0 (number_at 8 2 digits) (number_at 10 2 digits) (number_at 12 2 digits) moment time.2 p.1.3 even in
    let size : length (drop 12 digits) ≡ 2 = omega (arith, length-drop 12 digits, all.0) in
    let whole : take 2 (drop 12 digits) ≡ drop 12 digits = take_all 2 (drop 12 digits) (omega arith) in
    (all.0, same_digits (drop 12 digits) (codes "00") size (digits_end 12 digits all.1) refl (ap (digits_value 10) (sym whole) ∙ s))

pub short_moment : (digits : List ℕ) (moment : ℕ) → moment_of digits ≡ Some moment → moment % 60 ≡ 0 → IsHeaderMoment moment (take 12 digits)
short_moment digits moment e even =
    let last = last_zeros digits moment e even in
    let size : length (take 12 digits) ≡ 12 = length-take-le 12 digits (omega (arith, last.0)) in (
      date_time_short (take 12 digits) size ∙ ap (λ t. moment_of (take 12 digits ++ t)) (sym last.1) ∙ ap moment_of (take-append-drop 12 digits) ∙ e,
      rw even size,
    )

pub long_moment : (digits : List ℕ) (moment : ℕ) → moment_of digits ≡ Some moment → (moment % 60 ≡ 0 → ⊥) → IsHeaderMoment moment (take 14 digits)
long_moment digits moment e some =
    let p = moment_parts digits moment e in
    let all = fourteen digits p.1.1 in
    let whole : take 14 digits ≡ digits = take_all 14 digits (omega (arith, all.0)) in
    let other : (moment % 60 == 0) ≡ false = grind (arith, nat_tests) in (
      ap date_time_of whole ∙ date_time_other digits (λ twelve. omega (arith, all.0)) ∙ e,
      rw other (ap length whole ∙ all.0),
    )

-- the value fields of readings, one more
values_more : (readings : List ReadingValue) (i : ℕ) (d : ReadingValue) → i < length readings
    → value_texts (take (i + 1) readings) ≡ value_texts (take i readings) ++ closed (value_field (get_or readings i d))
values_more readings i d h =
    ap value_texts (take_more readings i d h)
    ∙ flat_map-append (λ reading. closed (value_field reading)) (take i readings) (get_or readings i d ∷ [])
    ∙ ap (λ t. value_texts (take i readings) ++ t) (append-nil (closed (value_field (get_or readings i d))))

-- a value field and the comma after it are appended
values_step : (readings : List ReadingValue) (i : ℕ) (r : ReadingValue) (old a new text : List ℕ) → i < length readings
    → r ≡ get_or readings i r → text ≡ value_field r → a ≡ old ++ value_texts (take i readings) → new ≡ a ++ closed text
    → new ≡ old ++ value_texts (take (i + 1) readings)
values_step readings i r old a new text h is value ea en =
    let front = value_texts (take i readings) in
    let last = value_field (get_or readings i r) in
    en ∙ ap (λ t. t ++ closed text) ea ∙ ap (λ t. (old ++ front) ++ closed t) (value ∙ ap value_field is)
    ∙ append_assoc old front (closed last)
    ∙ ap (λ t. old ++ t) (sym (values_more readings i r h))

closed_length : (text : List ℕ) → length (closed text) ≡ length text + 1
closed_length text = length-append text (44 ∷ [])

-- how long the text of one reading more is, and that it is a part of the text of all
values_length : (readings : List ReadingValue) (i : ℕ) (r : ReadingValue) → i < length readings → r ≡ get_or readings i r
    → length (value_texts (take (i + 1) readings)) ≡ length (value_texts (take i readings)) + length (value_field r) + 1
values_length readings i r h is =
    let front = value_texts (take i readings) in
    let more : length (value_texts (take (i + 1) readings)) ≡ length (front ++ closed (value_field r)) =
    ap length (values_more readings i r h ∙ ap (λ x. front ++ closed (value_field x)) (sym is)) in
    omega (arith, more, length-append front (closed (value_field r)), length-append (value_field r) (44 ∷ []))

values_long : (readings : List ReadingValue) (i : ℕ) (r : ReadingValue) → i < length readings → r ≡ get_or readings i r
    → length (value_texts (take i readings)) + length (value_field r) + 1 ≤ length (value_texts readings)
values_long readings i r h is =
    let front = take (i + 1) readings in
    let rest = drop (i + 1) readings in
    let whole : length (value_texts readings) ≡ length (value_texts front ++ value_texts rest) =
    ap (λ l. length (value_texts l)) (sym (take-append-drop (i + 1) readings))
    ∙ ap length (flat_map-append (λ reading. closed (value_field reading)) front rest) in
    omega (arith, whole, values_length readings i r h is, length-append (value_texts front) (value_texts rest))

-- readings are lawful where a test tells it
pub all_lawful : (readings : List ReadingValue) → list_all is_lawful readings ≡ true → All (λ reading. is_lawful reading ≡ true) readings
all_lawful [] h = All-nil (λ reading. is_lawful reading ≡ true)
all_lawful (r ∷ readings) h =
    let p = both (is_lawful r) (list_all is_lawful readings) h in
    All-cons (λ reading. is_lawful reading ≡ true) r readings p.0 (all_lawful readings p.1)

-- the millionths that are written for a reading
abbrev number : ReadingValue → ℤ
number reading = unwrap_or reading.value (pos 0)

small : (r : ReadingValue) → is_lawful r ≡ true → unsigned_abs (number r) < limit
small r h = of_value r.value (both (is_mark r.mark) (is_value r.value) (both _ (is_reading r.mark.quality.flag r.value) h).0).1
  where
    of_value : (v : Option ℤ) → is_value v ≡ true → unsigned_abs (unwrap_or v (pos 0)) < limit
    of_value None h = omega arith
    of_value (Some z) h = grind (arith, nat_tests)

pub numbers_length : (readings : List ReadingValue) (numbers : List ℤ) → numbers ≡ map (λ reading. unwrap_or reading.value (pos 0)) readings
    → length numbers ≡ length readings
numbers_length readings numbers is = ap length is ∙ length-map readings number

-- the reading of one of them
record ReadingOf (readings : List ReadingValue) (k : ℕ) (z : ℤ) : Type 0 where
  reading : ReadingValue
  within : k < length readings
  at : reading ≡ get_or readings k reading
  value : z ≡ number reading
  small : unsigned_abs z < limit

-- as a machine holds it
abbrev stored : List ℤ → ℕ → ℤ
stored numbers k = to_z w64 (of_z w64 (get_or numbers k (pos 0)))

module _ (readings : List ReadingValue) (numbers : List ℤ) (k : ℕ) (is : numbers ≡ map (λ reading. unwrap_or reading.value (pos 0)) readings)
    (lt : k < length numbers) (all : list_all is_lawful readings ≡ true) where
  number_here : ReadingOf readings k (stored numbers k)
  number_here =
      let n = go readings k (omega (arith, numbers_length readings numbers is)) (ap (λ l. get_or l k (pos 0)) is) all in
      let back : stored numbers k ≡ get_or numbers k (pos 0) = to_z-of_z w64 _ (fits_signed_from_abs w64 _ (omega (arith, n.small))) in
      record { reading = n.reading; within = n.within; at = n.at; value = back ∙ n.value; small = omega (arith, n.small, ap unsigned_abs back) }
    where
      go : (rs : List ReadingValue) (i : ℕ) → i < length rs → get_or numbers k (pos 0) ≡ get_or (map number rs) i (pos 0) → list_all is_lawful rs ≡ true
          → ReadingOf rs i (get_or numbers k (pos 0))
      go [] i lt at all = absurd (omega arith)
      go (r ∷ rs) zero lt at all = record {
        reading = r;
        within = lt;
        at = refl;
        value = at;
        small = omega (arith, ap unsigned_abs at, small r (both (is_lawful r) (list_all is_lawful rs) all).0);
      }
      go (r ∷ rs) (suc i) lt at all =
          let n = go rs i (omega arith) at (both (is_lawful r) (list_all is_lawful rs) all).1 in
          record { reading = n.reading; within = omega (arith, n.within); at = n.at; value = n.value; small = n.small }

  -- it is that of a quantity
  pub number_fits : unsigned_abs (stored numbers k) < limit
  number_fits = number_here.small

  field : written (stored numbers k) ≡ value_field number_here.reading
  field = ap written number_here.value

  -- its text is that of the reading, and so long
  pub number_step : (old a new : List ℕ) → a ≡ old ++ value_texts (take k readings) → new ≡ a ++ closed (written (stored numbers k))
      → new ≡ old ++ value_texts (take (k + 1) readings)
  number_step old a new ea en =
      values_step readings k number_here.reading old a new (written (stored numbers k)) number_here.within number_here.at field ea en

  pub number_length : (old a new : ℕ) → a ≡ old + length (value_texts (take k readings)) → new ≡ a + length (closed (written (stored numbers k)))
      → new ≡ old + length (value_texts (take (k + 1) readings))
  number_length old a new ea en =
      omega (arith, ea, en, closed_length (written (stored numbers k)), ap length field, values_length readings k number_here.reading number_here.within number_here.at)

  pub number_long : (old a room more : ℕ) → a ≡ old + length (value_texts (take k readings)) → room ≤ more
      → more < a + length (closed (written (stored numbers k))) → room < old + length (value_texts readings)
  number_long old a room more ea grown full =
      omega (arith, ea, grown, full, closed_length (written (stored numbers k)), ap length field, values_long readings k number_here.reading number_here.within number_here.at)

-- the first field of a line, and the others
line_more : (x : List ℕ) (xs : List (List ℕ)) → 0 < length xs → line_of (x ∷ xs) ≡ closed x ++ line_of xs
line_more x [] h = absurd (omega arith)
line_more x (y ∷ ys) h =
    let rest = joined (y ∷ ys) in
    let end = 13 ∷ 10 ∷ [] in
    ap (λ t. t ++ end) (sym (append_assoc x (44 ∷ []) rest)) ∙ append_assoc (closed x) rest end

values_line : (readings : List ReadingValue) (tail : List (List ℕ)) → 0 < length tail
    → line_of (map value_field readings ++ tail) ≡ value_texts readings ++ line_of tail
values_line [] tail h = refl
values_line (r ∷ readings) tail h =
    line_more (value_field r) (map value_field readings ++ tail) (omega (arith, length-append (map value_field readings) tail))
    ∙ ap (λ t. closed (value_field r) ++ t) (values_line readings tail h)
    ∙ sym (append_assoc (closed (value_field r)) (value_texts readings) (line_of tail))

-- a row, appended piece by piece
pub header_row : (P : List ℕ → Type 0) (moment : ℕ) (sender receiver made a b : List ℕ) → IsHeaderMoment moment made → a ≡ sender → b ≡ receiver
    → P (line_of (codes "100" ∷ codes "NEM12" ∷ made ∷ a ∷ b ∷ []))
    → (text : List ℕ) × IsRowText (HeaderRow moment sender receiver) text × P text
header_row P moment sender receiver made a b m ea eb e = (
  line_of (codes "100" ∷ codes "NEM12" ∷ made ∷ a ∷ b ∷ []),
  (codes "100" ∷ codes "NEM12" ∷ made ∷ a ∷ b ∷ [], (made, m, ap (λ x. codes "100" ∷ codes "NEM12" ∷ made ∷ x ∷ b ∷ []) ea ∙ ap (λ x. codes "100" ∷ codes "NEM12" ∷ made ∷ sender ∷ x ∷ []) eb), refl),
  e,
)

-- the line of a 300, piece by piece
day_line : (readings : List ReadingValue) (day : List ℕ) (tail : List (List ℕ)) → 0 < length tail
    → line_of (codes "300" ∷ day ∷ map value_field readings ++ tail) ≡ closed (codes "300") ++ (closed day ++ (value_texts readings ++ line_of tail))
day_line readings day tail size =
    let values = map value_field readings ++ tail in
    let more : 0 < length values = omega (arith, length-append (map value_field readings) tail) in
    line_more (codes "300") (day ∷ values) (omega arith)
    ∙ ap (λ t. closed (codes "300") ++ t) (line_more day values more ∙ ap (λ t. closed day ++ t) (values_line readings tail size))

-- what follows its values
abbrev pub own_line : Option Mark → List ℕ → List ℕ
own_line mark updated = line_of (own_fields mark ++ updated ∷ [] ∷ [])

some_own : (mark : Option Mark) (updated : List ℕ) → 0 < length (own_fields mark ++ updated ∷ [] ∷ [])
some_own mark updated = omega (arith, length-append (own_fields mark) (updated ∷ [] ∷ []))

pub day_row : (date update : ℕ) (readings : List ReadingValue) (mark : Option Mark) (old a b c new day updated : List ℕ) → day_of day ≡ Some date
    → moment_of updated ≡ Some update → Appends old a (closed (codes "300")) → Appends a b (closed day) → Appends b c (value_texts readings)
    → Appends c new (own_line mark updated)
    → (text : List ℕ) × IsRowText (DayRow date readings mark update) text × Appends old new text
day_row date update readings mark old a b c new day updated d u ea eb ec own =
    let tail = own_fields mark ++ updated ∷ [] ∷ [] in
    let fields = codes "300" ∷ day ∷ map value_field readings ++ tail in
    let first = closed (codes "300") in
    let line = day_line readings day tail (some_own mark updated) in (
      line_of fields,
      (fields, (day, updated, d, u, refl), refl),
      own ∙ ap (λ t. t ++ line_of tail) (ec ∙ ap (λ t. t ++ value_texts readings) (eb ∙ ap (λ t. t ++ closed day) ea))
          ∙ (append_assoc (old ++ first ++ closed day) (value_texts readings) (line_of tail)
          ∙ append_assoc (old ++ first) (closed day) (value_texts readings ++ line_of tail)
          ∙ append_assoc old first (closed day ++ (value_texts readings ++ line_of tail))
          ∙ ap (λ t. old ++ t) (sym line)),
    )

-- a text of it, and how long that is
pub day_text : (date update : ℕ) (readings : List ReadingValue) (mark : Option Mark) (day updated : List ℕ) → day_of day ≡ Some date
    → moment_of updated ≡ Some update
    → (text : List ℕ) × IsRowText (DayRow date readings mark update) text
    × (length text ≡ length (closed (codes "300")) + length (closed day) + length (value_texts readings) + length (own_line mark updated))
day_text date update readings mark day updated d u =
    let tail = own_fields mark ++ updated ∷ [] ∷ [] in
    let fields = codes "300" ∷ day ∷ map value_field readings ++ tail in
    let rest = value_texts readings ++ line_of tail in (
      line_of fields,
      (fields, (day, updated, d, u, refl), refl),
      ap length (day_line readings day tail (some_own mark updated))
          ∙ omega (arith, length-append (closed (codes "300")) (closed day ++ rest), length-append (closed day) rest, length-append (value_texts readings) (line_of tail)),
    )

pub details_row : (P : List ℕ → Type 0) (stream : Stream) (details : DetailsValue) (unit : MeasureUnit) (minutes : ℕ) (nmi suffix name digits next : List ℕ)
    → optional day_of next ≡ Some details.next → nmi ≡ stream.nmi → suffix ≡ stream.suffix → name ≡ unit_text unit → digits ≡ decimal minutes
    → P (line_of (codes "200" ∷ nmi ∷ details.configuration ∷ details.register ∷ suffix ∷ details.datastream ∷ details.meter ∷ name ∷ digits ∷ next ∷ []))
    → (text : List ℕ) × IsRowText (DetailsRow stream details unit minutes) text × P text
details_row P stream details unit minutes nmi suffix name digits next day en es eu ed e =
    let fields : (nmi suffix name digits : List ℕ) → List (List ℕ) =
    λ nmi suffix name digits. codes "200" ∷ nmi ∷ details.configuration ∷ details.register ∷ suffix ∷ details.datastream ∷ details.meter ∷ name ∷ digits ∷ next ∷ [] in (
      line_of (fields nmi suffix name digits),
      (fields nmi suffix name digits, (next, day, λ i. fields (en i) (es i) (eu i) (ed i)), refl),
      e,
    )

-- the text of each length, by the number of its intervals
pub length_5 : (minutes count : ℕ) → is_length minutes ≡ true → count ≡ 1440 / minutes → count ≡ 288 → codes "5" ≡ decimal minutes
length_5 minutes count h e k = elim (cases_length minutes h) [
  | inl m ↦ sym decimal_5 ∙ ap decimal (sym m)
  | inr (inl m) ↦ absurd (omega (arith, e, k, ap (λ n. 1440 / n) m))
  | inr (inr m) ↦ absurd (omega (arith, e, k, ap (λ n. 1440 / n) m))
]

pub length_15 : (minutes count : ℕ) → is_length minutes ≡ true → count ≡ 1440 / minutes → count ≡ 96 → codes "15" ≡ decimal minutes
length_15 minutes count h e k = elim (cases_length minutes h) [
  | inl m ↦ absurd (omega (arith, e, k, ap (λ n. 1440 / n) m))
  | inr (inl m) ↦ sym decimal_15 ∙ ap decimal (sym m)
  | inr (inr m) ↦ absurd (omega (arith, e, k, ap (λ n. 1440 / n) m))
]

pub length_30 : (minutes count : ℕ) → is_length minutes ≡ true → count ≡ 1440 / minutes → (count ≡ 288 → ⊥) → (count ≡ 96 → ⊥) → codes "30" ≡ decimal minutes
length_30 minutes count h e k l = elim (cases_length minutes h) [
  | inl m ↦ absurd (k (e ∙ ap (λ n. 1440 / n) m))
  | inr (inl m) ↦ absurd (l (e ∙ ap (λ n. 1440 / n) m))
  | inr (inr m) ↦ sym decimal_30 ∙ ap decimal (sym m)
]

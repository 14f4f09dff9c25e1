-- The texts of terms as fields: of which bytes they are, how long they are, and that they read back.
use Rattle.std.proofs.Common.{◌≡◌, ◌≢◌, ℕ, ◌+◌, ◌-◌, ◌*◌, ◌/◌, ◌%◌, ◌^◌, ◌<◌, ◌≤◌, ◌==◌, Bool, true, false, ◌&&◌, ◌||◌, nat_le, eqb, cond, List, [], ◌∷◌, ◌++◌, length, length-append, take, codes, decimal, chars, ℤ, pos, negsuc, unsigned_abs, Option, Some, None, is_some, option_map, unwrap_or, Ok, refl, sym, ap, ◌∙◌, arith, inl, inr}
use Rattle.std.specs.Char.{is_ascii_digit, digit_char, digit_value}
use Rattle.std.specs.List.{list_all, suffix_len}
use Rattle.std.specs.Str.{is_utf8}
use Rattle.std.specs.Str.Parse.{AllDigits, digits_value}
use lib.Utf8.{encode, encodes}
use Rattle.std.proofs.lemmas.Bool.{cases_eq}
use Rattle.std.proofs.lemmas.Bool.Decides.{nat_tests}
use Rattle.std.proofs.lemmas.Fmt.{decimal_is_IsNumeral, decimal_nonempty, length-decimal-le}
use Rattle.std.proofs.lemmas.List.{length-take}
use Rattle.std.proofs.lemmas.List.Folds.{list_all-append}
use Rattle.std.proofs.lemmas.Str.{IsUtf8-from_is_utf8, encodes-chars, length-encode, len_utf8_bounds}
use Rattle.mds_quantity.specs.Quantity.{denoted, is_zero, limit, point_and_decimals, sign_of, six_decimals, written}
use Rattle.mds_quantity.specs.Unit.{unit_of, unit_text}
use Rattle.mds_quantity.specs.declared.unit.Unit.{Unit as MeasureUnit}
use Rattle.mds_quantity.specs.declared.unit.Unit.TheVariants.{MWh}
use Rattle.mds_calendar.specs.Calendar.{are_digits, day_of, moment_of}
use Rattle.mds_calendar.specs.Length.{is_length}
use Rattle.mds_calendar.proofs.Days.{day_of_parts}
use Rattle.mds_calendar.proofs.Moments.{date_time_other, date_time_short, moment_parts}
use Rattle.mds_marks.specs.Mark.{is_mark, mark_of}
use Rattle.mds_marks.specs.Quality.{QualityValue, has_method, is_quality, quality_of, quality_text, variable}
use Rattle.mds_marks.specs.Reading.{ReadingValue, is_lawful, is_reading, is_value}
use Rattle.mds_marks.specs.Reason.{are_reason_chars, code_of, code_text, is_code, is_reason, is_reason_char, is_reason_text}
use Rattle.mds_marks.specs.declared.mark.Mark.{Mark}
use Rattle.mds_marks.proofs.Qualities.{quality_reads_back}
use Rattle.mds_marks.proofs.Splits.{mark_reads}
use Rattle.mds_names.specs.Names.{is_name, nmi_of, suffix_of}
use Rattle.mds_terms.specs.Parts.{joined, optional}
use Rattle.mds_terms.proofs.Texts.{both, day_is_digits, moment_is_digits}
use Rattle.mds_records.specs.Layouts.{has_flag, interval_number_of}
use Rattle.mds_records.proofs.Terms.{parts_of}
use Rattle.mds_quantity.proofs.Written.{reads_back}
use Rattle.mds_export.specs.ReadBack.{own_mark}
use Rattle.mds_export.specs.Rows.{IsHeaderMoment, mark_fields, own_fields}
use Rattle.mds_export.proofs.PlainFields.{AreFields, IsField, field_code, field_of_kind, field_quality, field_reason, field_written, is_plain_ascii}

-- an upper bound of a line's length
abbrev pub room : List (List ℕ) → ℕ
room [] = 0
room (f ∷ fs) = length f + 1 + room fs

pub joined_room : (fs : List (List ℕ)) → length (joined fs) ≤ room fs
joined_room [] = omega arith
joined_room (f ∷ []) = omega arith
joined_room (f ∷ g ∷ fs) = omega (arith, joined_room (g ∷ fs), length-append f (44 ∷ joined (g ∷ fs)))

pub room_append : (fs gs : List (List ℕ)) → room (fs ++ gs) ≡ room fs + room gs
room_append [] gs = omega arith
room_append (f ∷ fs) gs = omega (arith, room_append fs gs)

-- the moment of a 100
either : (b : Bool) (n : ℕ) → n ≡ cond b 12 14 → n ≤ 14
either true n e = omega arith
either false n e = omega arith

pub header_digits : (moment : ℕ) (made : List ℕ) → IsHeaderMoment moment made → (list_all is_ascii_digit made ≡ true) × (length made ≤ 14)
header_digits moment made h = (
  elim (cases_eq (length made) 12) [
    | inl short ↦ (both _ _ (sym (list_all-append is_ascii_digit made (codes "00")) ∙ moment_is_digits (made ++ codes "00") moment (sym (date_time_short made short) ∙ h.0))).0
    | inr long ↦ moment_is_digits made moment (sym (date_time_other made long) ∙ h.0)
  ],
  either (moment % 60 == 0) (length made) h.1,
)

-- the digits of a day, and of a moment
equal_length : (n : ℕ) (text : List ℕ) → are_digits n text ≡ true → length text ≡ n
equal_length n text h =
    let e = (both (length text == n) (list_all is_ascii_digit text) h).0 in
    grind (arith, nat_tests)

pub day_length : (text : List ℕ) (day : ℕ) → day_of text ≡ Some day → length text ≡ 8
day_length text day e = equal_length 8 text (day_of_parts text day e).0

pub moment_length : (text : List ℕ) (moment : ℕ) → moment_of text ≡ Some moment → length text ≡ 14
moment_length text moment e = equal_length 14 text (moment_parts text moment e).1.1

-- a part that may be absent
optional_more : (read : List ℕ → Option ℕ) (text : List ℕ) → 0 < length text → optional read text ≡ option_map Some (read text)
optional_more read text some =
    let e : (length text == 0) ≡ false = grind (arith, nat_tests) in
    rw e

pub optional_there : (read : List ℕ → Option ℕ) (text : List ℕ) (n : ℕ) → 0 < length text → read text ≡ Some n → optional read text ≡ Some (Some n)
optional_there read text n some e = optional_more read text some ∙ ap (option_map Some) e

mapped : (o : Option ℕ) (x : Option ℕ) → option_map Some o ≡ Some x → (n : ℕ) × (o ≡ Some n)
mapped (Some n) x e = (n, refl)
mapped None x e = absurd (cc)

-- the text of a day that may be absent is empty or that of a day
pub optional_day : (text : List ℕ) (x : Option ℕ) → optional day_of text ≡ Some x
    → (list_all is_ascii_digit text ≡ true) × (length text ≤ 8) × ((eqb (length text) 0 || is_some (day_of text)) ≡ true)
optional_day [] x e = (refl, omega arith, refl)
optional_day (c ∷ text) x e =
    let m = mapped (day_of (c ∷ text)) x (sym (optional_more day_of (c ∷ text) (omega arith)) ∙ e) in
    let none : eqb (length (c ∷ text)) 0 ≡ false = grind (arith, nat_tests) in
    (day_is_digits (c ∷ text) m.0 m.1, omega (arith, day_length (c ∷ text) m.0 m.1), rw (none, m.1))

-- names
pub nmi_reads : (text : List ℕ) → is_name 10 text ≡ true → nmi_of text ≡ Some text
nmi_reads text h = rw h

pub suffix_reads : (text : List ℕ) → is_name 2 text ≡ true → suffix_of text ≡ Some text
suffix_reads text h = rw h

pub name_length : (n : ℕ) (text : List ℕ) → is_name n text ≡ true → length text ≡ n
name_length n text h =
    let e = (both (length text == n) _ h).0 in
    grind (arith, nat_tests)

-- units
abbrev is_short_name : List ℕ → Bool
is_short_name text = list_all is_plain_ascii text && nat_le (length text) 5

unit_named : (unit : MeasureUnit) → is_short_name (unit_text unit) ≡ true
unit_named MWh = refl
unit_named unit = refl

pub unit_field : (unit : MeasureUnit) → IsField (unit_text unit) × (length (unit_text unit) ≤ 5)
unit_field unit =
    let p = both (list_all is_plain_ascii (unit_text unit)) (nat_le (length (unit_text unit)) 5) (unit_named unit) in
    (field_of_kind is_plain_ascii (λ c d. d) (unit_text unit) p.0, at_most (length (unit_text unit)) p.1)
  where
    at_most : (n : ℕ) → nat_le n 5 ≡ true → n ≤ 5
    at_most n h = grind (arith, nat_tests)

pub unit_reads : (unit : MeasureUnit) → unit_of (unit_text unit) ≡ Some unit
unfolding unit_of
unit_reads MWh = refl
unit_reads unit = refl

-- lengths
pub length_small : (minutes : ℕ) → is_length minutes ≡ true → minutes < 100
length_small minutes h = grind (arith, nat_tests)

-- numbers of intervals
digits_are : (ds : List ℕ) → AllDigits 10 ds → list_all is_ascii_digit ds ≡ true
digits_are [] h = refl
digits_are (d ∷ ds) h = rw (digit d h.0, digits_are ds h.1) refl
  where
    digit : (d : ℕ) → digit_value d < 10 → is_ascii_digit d ≡ true
    digit d h = grind (arith, nat_tests)

number_by : (text : List ℕ) (n : ℕ) → list_all is_ascii_digit text ≡ true → 0 < length text → length text ≤ 4 → digits_value 10 text ≡ n
    → interval_number_of text ≡ Some n
unfolding interval_number_of
number_by text n all some few is =
    let least : nat_le 1 (length text) ≡ true = grind (arith, nat_tests) in
    let most : nat_le (length text) 4 ≡ true = grind (arith, nat_tests) in
    rw (least, most, all, is) refl

pub number_reads : (n : ℕ) → n < 10 ^ 4 → (interval_number_of (decimal n) ≡ Some n) × (length (decimal n) ≤ 4)
number_reads n small =
    let word : n < 2 ^ 64 = omega (arith, small) in
    let digits = decimal_is_IsNumeral n word in
    let few = length-decimal-le 4 n (omega arith) (omega (arith, small)) word in
    (number_by (decimal n) n (digits_are (decimal n) digits.0.1) (decimal_nonempty n word) few digits.1, few)

-- marks
pub mark_good : (m : Mark) → is_mark m ≡ true → (is_quality m.quality.flag m.quality.method ≡ true) × (is_code m.reason.code ≡ true) × (is_reason_text m.reason.text ≡ true)
mark_good m h =
    let a = both (is_quality m.quality.flag m.quality.method) (is_reason m.reason.code m.reason.text) h in
    let b = both (is_code m.reason.code) (is_reason_text m.reason.text) a.1 in
    (a.0, b.0, b.1)

quality_short : (b : Bool) (flag x y : ℕ) → length (flag ∷ cond b (x ∷ y ∷ []) []) ≤ 3
quality_short true flag x y = omega arith
quality_short false flag x y = omega arith

code_short : (code : Option ℕ) → is_code code ≡ true → length (code_text code) ≤ 3
code_short None h = omega arith
code_short (Some n) h =
    let small : n < 1000 = grind (arith, nat_tests) in
    length-decimal-le 3 n (omega arith) (omega (arith, small)) (omega (arith, small))

encodes_short : (cs : List ℕ) → length (encodes cs) ≤ 4 * length cs
encodes_short [] = omega arith
encodes_short (c ∷ cs) = omega (arith, encodes_short cs, length-append (encode c) (encodes cs), length-encode c, (len_utf8_bounds c).1)

reason_short : (text : List ℕ) → is_reason_text text ≡ true → length text ≤ 960
reason_short text h =
    let t = both (is_utf8 text) (are_reason_chars (chars text)) h in
    let n = (both (nat_le (length (chars text)) 240) (list_all is_reason_char (chars text)) t.1).0 in
    let few : length (chars text) ≤ 240 = grind (arith, nat_tests) in
    omega (arith, encodes_short (chars text), ap length (encodes-chars text (IsUtf8-from_is_utf8 text t.0)), few)

-- the fields of a mark
pub record AreMarkFields (m : Mark) : Type 0 where
  pub fields : AreFields (mark_fields m)
  pub short : room (mark_fields m) ≤ 969
  pub reads : mark_of (quality_text m.quality) (code_text m.reason.code) m.reason.text ≡ Some m
  pub quality : quality_of (quality_text m.quality) ≡ Some m.quality
  pub code : is_some (code_of (code_text m.reason.code)) ≡ true
  pub text : is_reason_text m.reason.text ≡ true

pub mark_facts : (m : Mark) → is_mark m ≡ true → AreMarkFields m
mark_facts m h =
    let g = mark_good m h in
    let parts = parts_of (quality_text m.quality) (code_text m.reason.code) m.reason.text m (sym (mark_reads m h)) in
    record {
      fields = (field_quality m.quality g.0, (field_code m.reason.code g.1, (field_reason m.reason.text g.2, tt)));
      short = omega (arith, quality_short (has_method m.quality.flag) m.quality.flag (digit_char (m.quality.method / 10)) (digit_char (m.quality.method % 10)), code_short m.reason.code g.1, reason_short m.reason.text g.2);
      reads = mark_reads m h;
      quality = quality_reads_back m.quality g.0;
      code = sym parts.has_code;
      text = g.2;
    }

pub own_is : (mark : Option Mark) → own_fields mark ≡ mark_fields (own_mark mark)
own_is None = refl
own_is (Some m) = refl

-- of a run
pub single : (q : QualityValue) → is_quality q.flag q.method ≡ true → q.flag ≢ variable → has_flag (codes "AEFNS") (Some q) ≡ true
single q h ne = grind (arith, nat_tests)

-- values
value_small : (value : Option ℤ) → is_value value ≡ true → unsigned_abs (unwrap_or value (pos 0)) < limit
value_small None h = omega arith
value_small (Some z) h = grind (arith, nat_tests)

pub reading_small : (r : ReadingValue) → is_lawful r ≡ true → unsigned_abs (unwrap_or r.value (pos 0)) < limit
reading_small r h = value_small r.value (both (is_mark r.mark) (is_value r.value) (both (is_mark r.mark && is_value r.value) (is_reading r.mark.quality.flag r.value) h).0).1

sign_short : (z : ℤ) → length (sign_of z) ≤ 1
sign_short (pos n) = omega arith
sign_short (negsuc n) = omega arith

decimals_short : (part n : ℕ) (b : Bool) → length (cond b [] (codes "." ++ take n (six_decimals part))) ≤ 7
decimals_short part n true = omega arith
decimals_short part n false = simp length-take (omega arith)

point_short : (part : ℕ) → length (point_and_decimals part) ≤ 7
point_short part = decimals_short part (length (six_decimals part) - suffix_len is_zero (six_decimals part)) (part == 0)

pub record IsValueField (z : ℤ) : Type 0 where
  pub field : IsField (written z)
  pub some : 0 < length (written z)
  pub short : length (written z) ≤ 20
  pub reads : denoted (written z) ≡ Ok z

pub value_facts : (z : ℤ) → unsigned_abs z < limit → IsValueField z
unfolding written
value_facts z h =
    let whole = decimal (unsigned_abs z / 10 ^ 6) in
    let rest = point_and_decimals (unsigned_abs z % 10 ^ 6) in
    let size = length-append (sign_of z ++ whole) rest in
    let front = length-append (sign_of z) whole in
    record {
      field = field_written z h;
      some = omega (arith, size, front, decimal_nonempty (unsigned_abs z / 10 ^ 6) (omega (arith, h)));
      short = omega (arith, size, front, sign_short z, length-decimal-le 12 (unsigned_abs z / 10 ^ 6) (omega arith) (omega (arith, h)) (omega (arith, h)), point_short (unsigned_abs z % 10 ^ 6));
      reads = reads_back z h;
    }

-- Texts that need no quotation marks, and a row of its parts.
use Rattle.std.proofs.Common.{◌≡◌, ◌==◌, ℕ, ◌+◌, ◌-◌, ◌<◌, ◌≤◌, ◌/◌, ◌%◌, ◌^◌, Bool, true, false, cond, codes, decimal, List, [], ◌∷◌, ◌++◌, take, drop, get_or, length, refl, ap, arith, append_assoc, ℤ, pos, negsuc, unsigned_abs}
use Rattle.std.specs.Prelude.{Result, Ok, Err, OnOk, is_ok, if◌then◌else◌}
use Rattle.std.specs.Char.{digit_char, digit_value, is_ascii_digit}
use Rattle.std.specs.List.{All, list_all, range_with_len}
use Rattle.std.specs.Str.Parse.{AllDigits}
use Rattle.std.proofs.lemmas.Bool.Decides.{nat_tests}
use Rattle.std.proofs.lemmas.Fmt.{decimal_is_IsNumeral}
use Rattle.std.proofs.lemmas.List.{take_all}
use Rattle.std.proofs.lemmas.List.Elements.{All-nil, All-cons, All-append, All-drop, All-from_get_or, All-map, All-take, All-weaker}
use Rattle.std.proofs.lemmas.List.Folds.{list_any_none}
use Rattle.std.proofs.lemmas.List.Sums.{AllPass-from_list_all}
use Rattle.csv.specs.Writing.{default_writer, escaped, field_text, fields_text, is_blank, needs_byte, needs_quotes, row_text}
use Rattle.mds_quantity.specs.Quantity.{limit, point_and_decimals, sign_of, six_decimals, written}
use Rattle.mds_marks.specs.Quality.{QualityValue, is_quality, quality_text, two_digits}
use Rattle.mds_marks.proofs.Qualities.{is_plain as is_quality_char, plain_text}
use Rattle.mds_registers.specs.FieldsSteps.{IsPlain, closed}
use Rattle.mds_registers.specs.Readings.{start_text}

-- a byte above the comma, as those of digits and letters are
abbrev pub IsHigh : ℕ → Type 0
IsHigh c = 45 ≤ c

plain_byte : (c : ℕ) → 45 ≤ c → needs_byte default_writer c ≡ false
plain_byte c h = grind (arith, nat_tests)

-- it is written as it is
pub plain_field : (text : List ℕ) → IsPlain text → field_text default_writer text ≡ text
plain_field text plain =
    let none : needs_quotes default_writer text ≡ false =
    list_any_none (needs_byte default_writer) text (All-weaker IsHigh (λ c. needs_byte default_writer c ≡ false) plain_byte text plain.high) in
    rw none refl

pub plain_nil : IsPlain []
plain_nil = record { high = All-nil IsHigh }

pub plain_digits : (text : List ℕ) → list_all is_ascii_digit text ≡ true → IsPlain text
plain_digits text h = record {
  high = All-weaker (λ c. is_ascii_digit c ≡ true) IsHigh (λ c d. grind (arith, nat_tests)) text (AllPass-from_list_all is_ascii_digit text h);
}

append : (a b : List ℕ) → IsPlain a → IsPlain b → IsPlain (a ++ b)
append a b p q = record { high = All-append IsHigh a b p.high q.high }

one : (c : ℕ) → 45 ≤ c → IsPlain (c ∷ [])
one c h = record { high = All-cons IsHigh c [] h (All-nil IsHigh) }

digit_high : (d : ℕ) → 45 ≤ digit_char d
digit_high d = grind (arith, nat_tests)

two : (n : ℕ) → IsPlain (two_digits n)
two n = append (digit_char (n / 10) ∷ []) (digit_char (n % 10) ∷ []) (one (digit_char (n / 10)) (digit_high (n / 10))) (one (digit_char (n % 10)) (digit_high (n % 10)))

-- a field between quotation marks, after all of its bytes are written
pub quoted_put : {T E : Type 0} (r : Result T E) (old mid new field : List ℕ) (i : ℕ) → needs_quotes default_writer field ≡ true
    → length field ≤ i → mid ≡ old ++ (34 ∷ escaped default_writer (take i field))
    → new ≡ (if is_ok r then mid ++ (34 ∷ 44 ∷ []) else mid) → OnOk r (new ≡ old ++ closed field)
quoted_put (Ok x) old mid new field i needs over em en = rw (en, em, take_all i field over, needs) (simp append_assoc)
quoted_put (Err e) old mid new field i needs over em en = tt

-- the start of a row
pub plain_start : (date : List ℕ) (minutes : ℕ) → list_all is_ascii_digit date ≡ true → IsPlain (start_text date minutes)
plain_start date minutes h =
    let digits = (plain_digits date h).high in
    let year : IsPlain (take 4 date) = record { high = All-take IsHigh 4 date digits } in
    let month : IsPlain (take 2 (drop 4 date)) = record { high = All-take IsHigh 2 (drop 4 date) (All-drop IsHigh 4 date digits) } in
    let day : IsPlain (drop 6 date) = record { high = All-drop IsHigh 6 date digits } in
    let dash = one 45 (omega arith) in
    append _ _ (append _ _ (append _ _ (append _ _ (append _ _ (append _ _ (append _ _ (append _ _ year dash) month) dash) day)
    (one 84 (omega arith))) (two (minutes / 60))) (one 58 (omega arith))) (two (minutes % 60))

-- the start of a row, byte by byte
time_spread : (hours ones : List ℕ) (a b c d : ℕ) → hours ≡ a ∷ b ∷ [] → ones ≡ c ∷ d ∷ []
    → get_or hours 0 0 ∷ get_or hours 1 0 ∷ 58 ∷ get_or ones 0 0 ∷ get_or ones 1 0 ∷ [] ≡ a ∷ b ∷ 58 ∷ c ∷ d ∷ []
time_spread hours ones a b c d eh eo = rw (eh, eo) refl

pub start_made : (date hours ones : List ℕ) (minutes : ℕ) → length date ≡ 8 → hours ≡ two_digits (minutes / 60)
    → ones ≡ two_digits (minutes % 60) → get_or date 0 0 ∷ get_or date 1 0 ∷ get_or date 2 0 ∷ get_or date 3 0 ∷ 45
    ∷ get_or date 4 0 ∷ get_or date 5 0 ∷ 45 ∷ get_or date 6 0 ∷ get_or date 7 0 ∷ 84
    ∷ get_or hours 0 0 ∷ get_or hours 1 0 ∷ 58 ∷ get_or ones 0 0 ∷ get_or ones 1 0 ∷ [] ≡ start_text date minutes
start_made [] hours ones minutes eight eh eo = absurd (omega arith)
start_made (a ∷ []) hours ones minutes eight eh eo = absurd (omega arith)
start_made (a ∷ b ∷ []) hours ones minutes eight eh eo = absurd (omega arith)
start_made (a ∷ b ∷ c ∷ []) hours ones minutes eight eh eo = absurd (omega arith)
start_made (a ∷ b ∷ c ∷ d ∷ []) hours ones minutes eight eh eo = absurd (omega arith)
start_made (a ∷ b ∷ c ∷ d ∷ e ∷ []) hours ones minutes eight eh eo = absurd (omega arith)
start_made (a ∷ b ∷ c ∷ d ∷ e ∷ f ∷ []) hours ones minutes eight eh eo = absurd (omega arith)
start_made (a ∷ b ∷ c ∷ d ∷ e ∷ f ∷ g ∷ []) hours ones minutes eight eh eo = absurd (omega arith)
start_made (a ∷ b ∷ c ∷ d ∷ e ∷ f ∷ g ∷ h ∷ []) hours ones minutes eight eh eo =
    ap (λ rest. a ∷ b ∷ c ∷ d ∷ 45 ∷ e ∷ f ∷ 45 ∷ g ∷ h ∷ 84 ∷ rest) (time_spread hours ones _ _ _ _ eh eo)
start_made (a ∷ b ∷ c ∷ d ∷ e ∷ f ∷ g ∷ h ∷ i ∷ date) hours ones minutes eight eh eo = absurd (omega arith)

-- the text of a quality
pub plain_quality : (q : QualityValue) → is_quality q.flag q.method ≡ true → IsPlain (quality_text q)
plain_quality q h = record {
  high = All-weaker (λ c. is_quality_char c ≡ true) IsHigh (λ c d. grind (arith, nat_tests)) (quality_text q)
      (AllPass-from_list_all is_quality_char (quality_text q) (plain_text q h));
}

-- the text of a value
digits_high : (ds : List ℕ) → AllDigits 10 ds → All IsHigh ds
digits_high [] h = All-nil IsHigh
digits_high (d ∷ ds) h = All-cons IsHigh d ds (digit d h.0) (digits_high ds h.1)
  where
    digit : (d : ℕ) → digit_value d < 10 → 45 ≤ d
    digit d h = grind (arith, nat_tests)

plain_decimal : (n : ℕ) → n < 2 ^ 64 → IsPlain (decimal n)
plain_decimal n h = record { high = digits_high (decimal n) (decimal_is_IsNumeral n h).0.1 }

six_high : (part : ℕ) → All IsHigh (six_decimals part)
six_high part =
    All-map IsHigh (λ i. 48 + part / 10 ^ (5 - i) % 10) (range_with_len 0 6)
    (All-from_get_or (λ i. 45 ≤ 48 + part / 10 ^ (5 - i) % 10) (range_with_len 0 6) 0 (λ i h. omega arith))

plain_decimals : (part : ℕ) (b : Bool) (n : ℕ) → IsPlain (cond b [] (codes "." ++ take n (six_decimals part)))
plain_decimals part true n = plain_nil
plain_decimals part false n =
    append (46 ∷ []) (take n (six_decimals part)) (one 46 (omega arith)) (record { high = All-take IsHigh n (six_decimals part) (six_high part) })

plain_sign : (z : ℤ) → IsPlain (sign_of z)
plain_sign (pos n) = plain_nil
plain_sign (negsuc n) = one 45 (omega arith)

pub plain_written : (z : ℤ) → unsigned_abs z < limit → IsPlain (written z)
unfolding written
plain_written z h =
    append (sign_of z ++ decimal (unsigned_abs z / 10 ^ 6)) (point_and_decimals (unsigned_abs z % 10 ^ 6))
    (append (sign_of z) (decimal (unsigned_abs z / 10 ^ 6)) (plain_sign z) (plain_decimal (unsigned_abs z / 10 ^ 6) (omega (arith, h))))
    (plain_decimals (unsigned_abs z % 10 ^ 6) (unsigned_abs z % 10 ^ 6 == 0) _)

-- the text of a row of ten fields, if the third and the last are plain
pub row_made : (a b s c d e f g h u : List ℕ) → IsPlain s → IsPlain u
    → (closed a ++ closed b) ++ s ++ (codes "," ++ closed c ++ closed d) ++ (closed e ++ closed f ++ closed g) ++ closed h ++ u ++ codes "\n"
    ≡ row_text default_writer (a ∷ b ∷ s ∷ c ∷ d ∷ e ∷ f ∷ g ∷ h ∷ u ∷ [])
unfolding fields_text is_blank
row_made a b s c d e f g h u start update = rw (plain_field s start, plain_field u update) (simp append_assoc)

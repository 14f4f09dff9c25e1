-- Fields without a comma or a line feed, and lines of them.
use Rattle.std.proofs.Common.{◌≡◌, ◌≢◌, ◌<◌, ◌+◌, ◌/◌, ◌%◌, ◌^◌, ◌-◌, ◌==◌, ℕ, Bool, true, false, not, ◌&&◌, nat_lt, nat_le, eqb, cond, codes, decimal, chars, List, [], ◌∷◌, ◌++◌, length, take, get_or, refl, sym, arith, ℤ, pos, negsuc, unsigned_abs, Option, Some, None, inl, inr}
use Rattle.std.specs.Char.{is_ascii_digit, digit_value}
use Rattle.std.specs.List.{All, list_all, range_with_len}
use Rattle.std.specs.Str.{IsUtf8, is_utf8, NonePass, NoCharPasses}
use Rattle.std.specs.Str.Parse.{AllDigits}
use Rattle.std.proofs.lemmas.Bool.{cases_lt}
use Rattle.std.proofs.lemmas.Bool.Decides.{nat_tests}
use Rattle.std.proofs.lemmas.Fmt.{decimal_is_IsNumeral}
use Rattle.std.proofs.lemmas.List.Elements.{All-nil, All-cons, All-append, All-take, All-map, All-weaker, All-from_get_or}
use Rattle.std.proofs.lemmas.List.Sums.{AllPass-from_list_all}
use Rattle.std.proofs.lemmas.Str.{IsUtf8-append, IsUtf8-from_ascii, IsUtf8-nil, IsUtf8-from_is_utf8, NoCharPasses-byte, encodes-chars}
use Rattle.std.proofs.lemmas.Str.Ascii.{IsAscii-from_all}
use Rattle.mds_quantity.specs.Quantity.{written, sign_of, point_and_decimals, six_decimals, limit}
use Rattle.mds_marks.specs.Quality.{QualityValue, is_quality, quality_text}
use Rattle.mds_marks.specs.Reason.{is_reason_char, are_reason_chars, is_reason_text, is_code, code_text}
use Rattle.mds_marks.proofs.Qualities.{is_plain as is_quality_char, plain_text}
use Rattle.mds_names.specs.Names.{is_name, is_name_char}
use Rattle.mds_terms.specs.Printable.{is_printable, is_printable_char}
use Rattle.mds_terms.specs.Parts.{joined}
use Rattle.mds_terms.proofs.Texts.{both}
use Rattle.mds_lines.specs.Lines.{fields_of}
use Rattle.mds_lines.proofs.Splits.{split_is_only}

-- neither a comma nor a line feed
abbrev pub is_plain : ℕ → Bool
is_plain c = not (eqb c 44) && not (eqb c 10)

abbrev pub is_plain_ascii : ℕ → Bool
is_plain_ascii c = nat_lt c 128 && is_plain c

-- text of such characters
pub record IsField (text : List ℕ) : Type 0 where
  pub utf8 : IsUtf8 text
  pub plain : All (λ c. is_plain c ≡ true) text

pub field_nil : IsField []
field_nil = record { utf8 = IsUtf8-nil; plain = All-nil (λ c. is_plain c ≡ true) }

pub field_append : (a b : List ℕ) → IsField a → IsField b → IsField (a ++ b)
field_append a b f g = record {
  utf8 = IsUtf8-append a b f.utf8 g.utf8;
  plain = All-append (λ c. is_plain c ≡ true) a b f.plain g.plain;
}

-- ASCII characters of a kind that has neither
pub field_ascii : (text : List ℕ) → All (λ c. is_plain_ascii c ≡ true) text → IsField text
field_ascii text h = record {
  utf8 = IsUtf8-from_ascii text (IsAscii-from_all text (All-weaker (λ c. is_plain_ascii c ≡ true) (λ c. c < 128) (λ c d. grind (arith, nat_tests)) text h));
  plain = All-weaker (λ c. is_plain_ascii c ≡ true) (λ c. is_plain c ≡ true) (λ c d. (both (nat_lt c 128) (is_plain c) d).1) text h;
}

pub field_of_kind : (p : ℕ → Bool) → ((c : ℕ) → p c ≡ true → is_plain_ascii c ≡ true) → (text : List ℕ) → list_all p text ≡ true → IsField text
field_of_kind p w text h = field_ascii text (All-weaker (λ c. p c ≡ true) (λ c. is_plain_ascii c ≡ true) w text (AllPass-from_list_all p text h))

pub field_digits : (text : List ℕ) → list_all is_ascii_digit text ≡ true → IsField text
field_digits text h = field_of_kind is_ascii_digit (λ c d. grind (arith, nat_tests)) text h

pub field_printable : (text : List ℕ) → is_printable text ≡ true → IsField text
field_printable text h = field_of_kind is_printable_char (λ c d. grind (arith, nat_tests)) text (both (nat_le (length text) 240) (list_all is_printable_char text) h).1

pub field_name : (n : ℕ) (text : List ℕ) → is_name n text ≡ true → IsField text
field_name n text h = field_of_kind is_name_char (λ c d. grind (arith, nat_tests)) text (both (length text == n) (list_all is_name_char text) h).1

pub field_quality : (q : QualityValue) → is_quality q.flag q.method ≡ true → IsField (quality_text q)
field_quality q h = field_of_kind is_quality_char (λ c d. grind (arith, nat_tests)) (quality_text q) (plain_text q h)

-- the digits of a number
digits_field : (ds : List ℕ) → AllDigits 10 ds → All (λ c. is_plain_ascii c ≡ true) ds
digits_field [] h = All-nil (λ c. is_plain_ascii c ≡ true)
digits_field (d ∷ ds) h = All-cons (λ c. is_plain_ascii c ≡ true) d ds (digit d h.0) (digits_field ds h.1)
  where
    digit : (d : ℕ) → digit_value d < 10 → is_plain_ascii d ≡ true
    digit d h = grind (arith, nat_tests)

pub field_decimal : (n : ℕ) → n < 2 ^ 64 → IsField (decimal n)
field_decimal n h = field_ascii (decimal n) (digits_field (decimal n) (decimal_is_IsNumeral n h).0.1)

pub field_code : (code : Option ℕ) → is_code code ≡ true → IsField (code_text code)
field_code None h = field_nil
field_code (Some n) h =
    let small : n < 1000 = grind (arith, nat_tests) in
    field_decimal n (omega (arith, small))

-- a written quantity
digit_char_plain : (k : ℕ) → is_plain_ascii (48 + k % 10) ≡ true
digit_char_plain k =
    let small : k % 10 < 10 = omega arith in
    below (k % 10) small
  where
    below : (k : ℕ) → k < 10 → is_plain_ascii (48 + k) ≡ true
    below k h = grind (arith, nat_tests)

six_field : (part : ℕ) → All (λ c. is_plain_ascii c ≡ true) (six_decimals part)
six_field part =
    All-map (λ c. is_plain_ascii c ≡ true) (λ i. 48 + part / 10 ^ (5 - i) % 10) (range_with_len 0 6)
    (All-from_get_or (λ i. is_plain_ascii (48 + part / 10 ^ (5 - i) % 10) ≡ true) (range_with_len 0 6) 0 (λ i h. digit_char_plain (part / 10 ^ (5 - get_or (range_with_len 0 6) i 0))))

decimals_field : (part : ℕ) (b : Bool) (n : ℕ) → IsField (cond b [] (codes "." ++ take n (six_decimals part)))
decimals_field part true n = field_nil
decimals_field part false n =
    field_ascii (46 ∷ take n (six_decimals part))
    (All-cons (λ c. is_plain_ascii c ≡ true) 46 (take n (six_decimals part)) refl (All-take (λ c. is_plain_ascii c ≡ true) n (six_decimals part) (six_field part)))

sign_field : (z : ℤ) → IsField (sign_of z)
sign_field (pos n) = field_nil
sign_field (negsuc n) = field_ascii (45 ∷ []) (All-cons (λ c. is_plain_ascii c ≡ true) 45 [] refl (All-nil (λ c. is_plain_ascii c ≡ true)))

pub field_written : (z : ℤ) → unsigned_abs z < limit → IsField (written z)
unfolding written
field_written z h =
    field_append (sign_of z ++ decimal (unsigned_abs z / 10 ^ 6)) (point_and_decimals (unsigned_abs z % 10 ^ 6))
    (field_append (sign_of z) (decimal (unsigned_abs z / 10 ^ 6)) (sign_field z) (field_decimal (unsigned_abs z / 10 ^ 6) (omega (arith, h))))
    (decimals_field (unsigned_abs z % 10 ^ 6) (unsigned_abs z % 10 ^ 6 == 0) _)

-- the text of a reason
abbrev breaks : ℕ → Bool
breaks c = not (is_plain c)

none_break : (cs : List ℕ) → list_all is_reason_char cs ≡ true → NonePass breaks cs
none_break [] h = tt
none_break (c ∷ cs) h =
    let p = both (is_reason_char c) (list_all is_reason_char cs) h in
    (allowed c p.0, none_break cs p.1)
  where
    allowed : (c : ℕ) → is_reason_char c ≡ true → breaks c ≡ false
    allowed c h = grind (arith, nat_tests)

byte_plain : (text : List ℕ) → NoCharPasses breaks text → (i : ℕ) → i < length text → is_plain (get_or text i 0) ≡ true
byte_plain text h i within =
    elim (cases_lt (get_or text i 0) 128) [
      | inl low ↦ back (is_plain (get_or text i 0)) (NoCharPasses-byte breaks text i h within low)
      | inr high ↦ grind (arith, nat_tests)
    ]
  where
    back : (b : Bool) → not b ≡ false → b ≡ true
    back true e = refl
    back false e = absurd (cc)

pub field_reason : (text : List ℕ) → is_reason_text text ≡ true → IsField text
field_reason text h =
    let t = both (is_utf8 text) (are_reason_chars (chars text)) h in
    let utf8 = IsUtf8-from_is_utf8 text t.0 in
    let allowed = (both (nat_le (length (chars text)) 240) (list_all is_reason_char (chars text)) t.1).1 in
    let none : NoCharPasses breaks text = (chars text, encodes-chars text utf8, none_break (chars text) allowed) in
    record { utf8 = utf8; plain = All-from_get_or (λ c. is_plain c ≡ true) text 0 (byte_plain text none) }

-- fields, each of them so
abbrev pub AreFields : List (List ℕ) → Type 0
AreFields [] = Unit {0}
AreFields (f ∷ fs) = IsField f × AreFields fs

pub fields_append : (fs gs : List (List ℕ)) → AreFields fs → AreFields gs → AreFields (fs ++ gs)
fields_append [] gs a b = b
fields_append (f ∷ fs) gs a b = (a.0, fields_append fs gs a.1 b)

no_comma : (f : List ℕ) → IsField f → All (λ c. c ≢ 44) f
no_comma f h = All-weaker (λ c. is_plain c ≡ true) (λ c. c ≢ 44) (λ c d. grind (arith, nat_tests)) f h.plain

no_commas : (fs : List (List ℕ)) → AreFields fs → All (λ f. All (λ c. c ≢ 44) f) fs
no_commas [] h = All-nil (λ f. All (λ c. c ≢ 44) f)
no_commas (f ∷ fs) h = All-cons (λ f. All (λ c. c ≢ 44) f) f fs (no_comma f h.0) (no_commas fs h.1)

-- they are the fields of their line
pub fields_joined : (fs : List (List ℕ)) → 0 < length fs → AreFields fs → fields_of (joined fs) ≡ fs
fields_joined fs some h = sym (split_is_only 44 fs some (no_commas fs h))

-- which is text without a line feed
pub record IsLine (line : List ℕ) : Type 0 where
  pub utf8 : IsUtf8 line
  pub apart : All (λ c. c ≢ 10) line

line_field : (f : List ℕ) → IsField f → IsLine f
line_field f h = record {
  utf8 = h.utf8;
  apart = All-weaker (λ c. is_plain c ≡ true) (λ c. c ≢ 10) (λ c d. grind (arith, nat_tests)) f h.plain;
}

line_append : (a b : List ℕ) → IsLine a → IsLine b → IsLine (a ++ b)
line_append a b f g = record { utf8 = IsUtf8-append a b f.utf8 g.utf8; apart = All-append (λ c. c ≢ 10) a b f.apart g.apart }

comma_line : IsLine (44 ∷ [])
comma_line = record {
  utf8 = IsUtf8-from_ascii (44 ∷ []) (IsAscii-from_all (44 ∷ []) (All-cons (λ c. c < 128) 44 [] (omega arith) (All-nil (λ c. c < 128))));
  apart = All-cons (λ c. c ≢ 10) 44 [] (λ e. cc) (All-nil (λ c. c ≢ 10));
}

pub line_joined : (fs : List (List ℕ)) → AreFields fs → IsLine (joined fs)
line_joined [] h = line_field [] field_nil
line_joined (f ∷ []) h = line_field f h.0
line_joined (f ∷ g ∷ fs) h = line_append f (44 ∷ joined (g ∷ fs)) (line_field f h.0) (line_append (44 ∷ []) (joined (g ∷ fs)) comma_line (line_joined (g ∷ fs) h.1))

-- Texts without a comma and a line feed, and how they are appended.
use Rattle.std.proofs.Common.{◌≡◌, ℕ, zero, suc, ◌<◌, ◌+◌, ◌/◌, ◌%◌, ◌^◌, ◌-◌, Bool, true, false, ◌==◌, ◌&&◌, ◌++◌, List, [], ◌∷◌, length, get_or, take, refl, sym, ap, ◌∙◌, subst, arith, codes, decimal, chars, Some, None, Option, ℤ, pos, negsuc, unsigned_abs, neg_ℤ, append_assoc, nat_le, nat_lt, not, cond, Ok, Err, inl, inr}
use Rattle.std.proofs.lemmas.Bool.{cases_lt}
use Rattle.std.proofs.lemmas.Bool.Decides.{nat_tests}
use Rattle.std.proofs.lemmas.Fmt.{decimal_is_IsNumeral}
use Rattle.std.proofs.lemmas.Grind.{flat_map-append}
use Rattle.std.proofs.lemmas.List.{append-nil}
use Rattle.std.proofs.lemmas.List.Elements.{All-nil, All-cons, All-append, All-take, All-map, All-weaker, All-from_get_or}
use Rattle.std.proofs.lemmas.List.Sums.{AllPass-from_list_all}
use Rattle.std.proofs.lemmas.Str.{NoCharPasses-byte, encodes-chars, IsUtf8-from_is_utf8}
use Rattle.std.specs.Char.{is_ascii_digit, is_ascii_uppercase, digit_value}
use Rattle.std.specs.List.{list_all, range_with_len}
use Rattle.std.specs.Option.{option_map}
use Rattle.std.specs.Str.{is_utf8, NonePass, NoCharPasses}
use Rattle.std.specs.Str.Parse.{AllDigits}
use Rattle.mds_quantity.specs.Quantity.{denoted, written, sign_of, point_and_decimals, six_decimals, limit, has_form, is_exact, is_negative, magnitude, signed_magnitude}
use Rattle.mds_quantity.specs.declared.quantity.QuantityFault.TheVariants.{Form, Decimals, Range}
use Rattle.mds_quantity.specs.Unit.{unit_text}
use Rattle.mds_quantity.specs.declared.unit.Unit.{Unit as MeasureUnit}
use Rattle.mds_quantity.specs.declared.unit.Unit.TheVariants.{MWh, KWh, Wh, MVArh, KVArh, VArh, MVAr, KVAr, VAr, MW, KW, W, MVAh, KVAh, VAh, MVA, KVA, VA, KV, V, KA, A, Pf}
use Rattle.mds_names.specs.Names.{is_name, is_name_char, nmi_of, suffix_of}
use Rattle.mds_marks.specs.Quality.{QualityValue, is_quality, quality_text}
use Rattle.mds_marks.specs.Reason.{ReasonValue, is_reason_char, are_reason_chars, is_reason_text, is_code, code_of, reason_of}
use Rattle.mds_marks.proofs.Qualities.{is_plain, plain_text}
use Rattle.mds_terms.specs.Event.{is_trans, letter_of, trans_text}
use Rattle.mds_terms.specs.Parts.{joined, optional}
use Rattle.mds_terms.specs.Printable.{is_printable, is_printable_char}
use Rattle.mds_terms.proofs.Texts.{both}
use Rattle.mds_records.specs.Layouts.{direction_text}
use Rattle.mds_records.specs.declared.direction.Direction.{Direction}
use Rattle.mds_records.specs.declared.direction.Direction.TheVariants.{Import, Export}
use Rattle.mds_lines.specs.Lines.{comma}
use Rattle.mds_nem13.specs.BuilderSteps.{AppendsEach, AppendsLine, IsApart, is_separator, led}

-- bytes of a kind that has no separator
apart_from : (p : ℕ → Bool) → ((c : ℕ) → p c ≡ true → is_separator c ≡ false) → (text : List ℕ) → list_all p text ≡ true → IsApart text
apart_from p w text h = All-weaker (λ c. p c ≡ true) (λ c. is_separator c ≡ false) w text (AllPass-from_list_all p text h)

pub digits_apart : (text : List ℕ) → list_all is_ascii_digit text ≡ true → IsApart text
digits_apart text h = apart_from is_ascii_digit (λ c d. grind (arith, nat_tests)) text h

pub printable_apart : (text : List ℕ) → is_printable text ≡ true → IsApart text
printable_apart text h = apart_from is_printable_char (λ c d. grind (arith, nat_tests)) text (both _ (list_all is_printable_char text) h).1

pub name_apart : (n : ℕ) (text : List ℕ) → is_name n text ≡ true → IsApart text
name_apart n text h = apart_from is_name_char (λ c d. grind (arith, nat_tests)) text (both (length text == n) (list_all is_name_char text) h).1

pub quality_apart : (q : QualityValue) → is_quality q.flag q.method ≡ true → IsApart (quality_text q)
quality_apart q h = apart_from is_plain (λ c d. grind (arith, nat_tests)) (quality_text q) (plain_text q h)

-- the letters of units and directions
letters_apart : (text : List ℕ) → list_all (λ c. nat_lt 47 c) text ≡ true → IsApart text
letters_apart text h = apart_from (λ c. nat_lt 47 c) (λ c d. grind (arith, nat_tests)) text h

pub direction_apart : (d : Direction) → IsApart (direction_text d)
direction_apart Import = letters_apart (direction_text Import) refl
direction_apart Export = letters_apart (direction_text Export) refl

pub unit_apart : (u : MeasureUnit) → IsApart (unit_text u)
unit_apart MWh = letters_apart (unit_text MWh) refl
unit_apart KWh = letters_apart (unit_text KWh) refl
unit_apart Wh = letters_apart (unit_text Wh) refl
unit_apart MVArh = letters_apart (unit_text MVArh) refl
unit_apart KVArh = letters_apart (unit_text KVArh) refl
unit_apart VArh = letters_apart (unit_text VArh) refl
unit_apart MVAr = letters_apart (unit_text MVAr) refl
unit_apart KVAr = letters_apart (unit_text KVAr) refl
unit_apart VAr = letters_apart (unit_text VAr) refl
unit_apart MW = letters_apart (unit_text MW) refl
unit_apart KW = letters_apart (unit_text KW) refl
unit_apart W = letters_apart (unit_text W) refl
unit_apart MVAh = letters_apart (unit_text MVAh) refl
unit_apart KVAh = letters_apart (unit_text KVAh) refl
unit_apart VAh = letters_apart (unit_text VAh) refl
unit_apart MVA = letters_apart (unit_text MVA) refl
unit_apart KVA = letters_apart (unit_text KVA) refl
unit_apart VA = letters_apart (unit_text VA) refl
unit_apart KV = letters_apart (unit_text KV) refl
unit_apart V = letters_apart (unit_text V) refl
unit_apart KA = letters_apart (unit_text KA) refl
unit_apart A = letters_apart (unit_text A) refl
unit_apart Pf = letters_apart (unit_text Pf) refl

-- the digits of a number
numeral_apart : (ds : List ℕ) → AllDigits 10 ds → IsApart ds
numeral_apart [] h = All-nil (λ c. is_separator c ≡ false)
numeral_apart (d ∷ ds) h =
    let first : is_separator d ≡ false = digit_apart d h.0 in
    All-cons (λ c. is_separator c ≡ false) d ds first (numeral_apart ds h.1)
  where
    digit_apart : (d : ℕ) → digit_value d < 10 → is_separator d ≡ false
    digit_apart d h = grind (arith, nat_tests)

pub decimal_apart : (n : ℕ) → n < 2 ^ 64 → IsApart (decimal n)
decimal_apart n h = numeral_apart (decimal n) (decimal_is_IsNumeral n h).0.1

-- the text of a reason
none_apart : (cs : List ℕ) → list_all is_reason_char cs ≡ true → NonePass is_separator cs
none_apart [] h = tt
none_apart (c ∷ cs) h =
    let p = both (is_reason_char c) (list_all is_reason_char cs) h in
    (allowed_apart c p.0, none_apart cs p.1)
  where
    allowed_apart : (c : ℕ) → is_reason_char c ≡ true → is_separator c ≡ false
    allowed_apart c h = grind (arith, nat_tests)

byte_apart : (text : List ℕ) → NoCharPasses is_separator text → (i : ℕ) → i < length text → is_separator (get_or text i 0) ≡ false
byte_apart text h i within =
    elim (cases_lt (get_or text i 0) 128) [
      | inl low ↦ NoCharPasses-byte is_separator text i h within low
      | inr high ↦ grind (arith, nat_tests)
    ]

pub text_apart : (text : List ℕ) → is_reason_text text ≡ true → IsApart text
text_apart text h =
    let t = both (is_utf8 text) (are_reason_chars (chars text)) h in
    let utf8 = IsUtf8-from_is_utf8 text t.0 in
    let allowed = (both (nat_le (length (chars text)) 240) (list_all is_reason_char (chars text)) t.1).1 in
    let none : NoCharPasses is_separator text = (chars text, encodes-chars text utf8, none_apart (chars text) allowed) in
    All-from_get_or (λ c. is_separator c ≡ false) text 0 (byte_apart text none)

-- a quantity
decimal_digit_apart : (k : ℕ) → is_separator (48 + k) ≡ false
decimal_digit_apart k = grind (arith, nat_tests)

sign_apart : (z : ℤ) → IsApart (sign_of z)
sign_apart (pos n) = All-nil (λ c. is_separator c ≡ false)
sign_apart (negsuc n) = All-cons (λ c. is_separator c ≡ false) 45 [] refl (All-nil (λ c. is_separator c ≡ false))

six_apart : (part : ℕ) → IsApart (six_decimals part)
six_apart part =
    All-map (λ c. is_separator c ≡ false) (λ i. 48 + part / 10 ^ (5 - i) % 10) (range_with_len 0 6)
    (All-from_get_or (λ i. is_separator (48 + part / 10 ^ (5 - i) % 10) ≡ false) (range_with_len 0 6) 0 (λ i h. decimal_digit_apart (part / 10 ^ (5 - get_or (range_with_len 0 6) i 0) % 10)))

decimals_apart : (part : ℕ) (b : Bool) (n : ℕ) → IsApart (cond b [] (codes "." ++ take n (six_decimals part)))
decimals_apart part true n = All-nil (λ c. is_separator c ≡ false)
decimals_apart part false n =
    All-cons (λ c. is_separator c ≡ false) 46 (take n (six_decimals part)) refl (All-take (λ c. is_separator c ≡ false) n (six_decimals part) (six_apart part))

pub written_apart : (z : ℤ) → unsigned_abs z < limit → IsApart (written z)
unfolding written
written_apart z h =
    All-append (λ c. is_separator c ≡ false) (sign_of z ++ decimal (unsigned_abs z / 10 ^ 6)) (point_and_decimals (unsigned_abs z % 10 ^ 6))
    (All-append (λ c. is_separator c ≡ false) (sign_of z) (decimal (unsigned_abs z / 10 ^ 6)) (sign_apart z) (decimal_apart (unsigned_abs z / 10 ^ 6) (omega (arith, h))))
    (decimals_apart (unsigned_abs z % 10 ^ 6) (unsigned_abs z % 10 ^ 6 == 0) _)

-- a quantity that a text denotes is below the limit
abs_negative : (m : ℕ) → unsigned_abs (neg_ℤ (pos m)) ≡ m
abs_negative zero = refl
abs_negative (suc m) = refl

abs_signed : (b : Bool) (m : ℕ) → unsigned_abs (cond b (neg_ℤ (pos m)) (pos m)) ≡ m
abs_signed true m = abs_negative m
abs_signed false m = refl

within : (a b c : Bool) (z signed : ℤ) → cond (not a) (Err Form) (cond (not b) (Err Decimals) (cond c (Err Range) (Ok signed))) ≡ Ok z
    → (c ≡ false) × (signed ≡ z)
within false b c z signed e = absurd (cc)
within true false c z signed e = absurd (cc)
within true true true z signed e = absurd (cc)
within true true false z signed e = (refl, cc)

pub small_quantity : (text : List ℕ) (z : ℤ) → denoted text ≡ Ok z → unsigned_abs z < limit
unfolding denoted
small_quantity text z e =
    let w = within (has_form text) (is_exact text) (nat_le limit (magnitude text)) z (signed_magnitude text) e in
    let size = sym (ap unsigned_abs w.1) ∙ abs_signed (is_negative text) (magnitude text) in
    let below : magnitude text < limit = grind (arith, nat_tests) in
    subst (λ (n : ℕ). n < limit) (sym size) below

-- one text appended behind a comma
pub pushed : (old mid new text : List ℕ) → mid ≡ old ++ comma ∷ [] → new ≡ mid ++ text → IsApart text → AppendsEach old new (text ∷ [])
pushed old mid new text e f apart = record {
  bytes = f ∙ ap (λ t. t ++ text) e ∙ append_assoc old (comma ∷ []) text ∙ ap (λ t. old ++ t) (sym (append-nil (comma ∷ text)));
  apart = All-cons IsApart text [] apart (All-nil IsApart);
}

-- and that of a text which is known to be another
pub field_pushed : (old new text field : List ℕ) → text ≡ field → (IsApart text → AppendsEach old new (text ∷ [])) → IsApart field
    → AppendsEach old new (field ∷ [])
field_pushed old new text field e f apart =
    subst (λ (t : List ℕ). AppendsEach old new (t ∷ [])) e (f (subst IsApart (sym e) apart))

-- texts behind texts
pub each_more : (old mid new : List ℕ) (xs ys : List (List ℕ)) → AppendsEach old mid xs → AppendsEach mid new ys → AppendsEach old new (xs ++ ys)
each_more old mid new xs ys p q = record {
  bytes = q.bytes ∙ ap (λ t. t ++ led ys) p.bytes ∙ append_assoc old (led xs) (led ys)
      ∙ ap (λ t. old ++ t) (sym (flat_map-append (λ text. comma ∷ text) xs ys));
  apart = All-append IsApart xs ys p.apart q.apart;
}

-- a printable text that stands in a field
pub printable_pushed : (old new text value field : List ℕ) → text ≡ value → is_printable value ≡ true → value ≡ field
    → (IsApart text → AppendsEach old new (text ∷ [])) → AppendsEach old new (field ∷ [])
printable_pushed old new text value field e printable f push =
    field_pushed old new text field (e ∙ f) push (subst IsApart f (printable_apart value printable))

-- texts behind a comma each, but the first
joined_led : (x : List ℕ) (xs : List (List ℕ)) → joined (x ∷ xs) ≡ x ++ led xs
joined_led x [] = sym (append-nil x)
joined_led x (y ∷ ys) = ap (λ t. x ++ comma ∷ t) (joined_led y ys)

pub line_written : (front old mid new x : List ℕ) (xs : List (List ℕ)) → mid ≡ (old ++ front) ++ x → IsApart x → AppendsEach mid new xs
    → AppendsLine front old new (x ∷ xs)
line_written front old mid new x xs e apart p = record {
  bytes = p.bytes ∙ ap (λ t. t ++ led xs) e ∙ append_assoc (old ++ front) x (led xs) ∙ ap (λ t. (old ++ front) ++ t) (sym (joined_led x xs));
  apart = All-cons IsApart x xs apart p.apart;
}

-- a suffix is the text that it is read from
pub suffix_is : (text suffix : List ℕ) → suffix_of text ≡ Some suffix → suffix ≡ text
suffix_is text suffix e = by (is_name 2 text) e where
  by : (b : Bool) → cond b (Some text) None ≡ Some suffix → suffix ≡ text
  by true e = cc
  by false e = absurd (cc)

-- and so is an NMI
pub nmi_is : (text nmi : List ℕ) → nmi_of text ≡ Some nmi → nmi ≡ text
nmi_is text nmi e = by (is_name 10 text) e where
  by : (b : Bool) → cond b (Some text) None ≡ Some nmi → nmi ≡ text
  by true e = cc
  by false e = absurd (cc)

-- the parts of a reason
pub reason_parts : (code text : List ℕ) (v : ReasonValue) → reason_of code text ≡ Some v
    → (code_of code ≡ Some v.code) × (v.text ≡ text) × (is_reason_text text ≡ true)
unfolding reason_of
reason_parts code text v e = by (is_reason_text text) (code_of code) refl refl e where
  by : (b : Bool) (o : Option (Option ℕ)) → is_reason_text text ≡ b → code_of code ≡ o
      → cond b (option_map (λ n. record { code = n; text = text }) o) None ≡ Some v
      → (code_of code ≡ Some v.code) × (v.text ≡ text) × (is_reason_text text ≡ true)
  by true (Some n) f g e =
      let same : record { code = n; text = text } ≡ v = cc in
      (g ∙ ap (λ (r : ReasonValue). Some r.code) same, sym (ap (λ (r : ReasonValue). r.text) same), f)
  by true None f g e = absurd (cc)
  by false o f g e = absurd (cc)

-- a code is a short number
pub code_bound : (n : ℕ) → is_code (Some n) ≡ true → n < 2 ^ 64
code_bound n h = let small : n < 1000 = grind (arith, nat_tests) in omega arith

-- a transaction code is the text that it is read from
pub trans_is : (text : List ℕ) (t : Option ℕ) → optional letter_of text ≡ Some t → trans_text t ≡ text
trans_is [] t e = let none : None ≡ t = cc in ap trans_text (sym none)
trans_is (c ∷ []) t e = by (is_ascii_uppercase c) e where
  by : (b : Bool) → option_map Some (cond b (Some c) None) ≡ Some t → trans_text t ≡ c ∷ []
  by true e = let some : Some c ≡ t = cc in ap trans_text (sym some)
  by false e = absurd (cc)
trans_is (c ∷ d ∷ more) t e = by (length (c ∷ d ∷ more) == 0) (length (c ∷ d ∷ more) == 1) (grind (arith, nat_tests)) (grind (arith, nat_tests)) e where
  by : (a b : Bool) → a ≡ false → b ≡ false
      → cond a (Some None) (option_map Some (cond (b && is_ascii_uppercase c) (Some c) None)) ≡ Some t → trans_text t ≡ c ∷ d ∷ more
  by true b f g e = absurd (cc)
  by false true f g e = absurd (cc)
  by false false f g e = absurd (cc)

pub trans_apart : (t : Option ℕ) → is_trans t ≡ true → IsApart (trans_text t)
trans_apart None h = All-nil (λ c. is_separator c ≡ false)
trans_apart (Some c) h =
    let first : is_separator c ≡ false = grind (arith, nat_tests) in
    All-cons (λ c. is_separator c ≡ false) c [] first (All-nil (λ c. is_separator c ≡ false))

-- What the terms of a record say of its fields.
use Rattle.std.proofs.Common.{◌≡◌, ℕ, ◌<◌, ◌≤◌, ◌||◌, ◌&&◌, Bool, true, false, eqb, leb, if◌then◌else◌, List, [], ◌∷◌, length, Option, Some, None, option_map, is_some, is_ok, IfSome, refl, sym, ◌∙◌, ap, arith, ◌⊎◌, inl, inr}
use Rattle.std.proofs.lemmas.Bool.{true≢false}
use Rattle.std.proofs.lemmas.Bool.Decides.{nat_tests}
use Rattle.std.proofs.lemmas.Str.{IsUtf8-nil, is_utf8-from_IsUtf8, chars-nil}
use Rattle.std.specs.Char.{is_ascii_digit}
use Rattle.std.specs.List.{list_all}
use Rattle.std.specs.Str.Parse.{digits_value}
use Rattle.std.specs.Option.{option_and_then}
use Rattle.mds_quantity.specs.Quantity.{denoted}
use Rattle.mds_quantity.specs.Unit.{unit_of}
use Rattle.mds_calendar.specs.Calendar.{day_of, moment_of, date_time_of}
use Rattle.mds_marks.specs.BorrowedMarks.{reason_value, mark_value}
use Rattle.mds_marks.specs.Mark.{mark_of}
use Rattle.mds_marks.specs.Quality.{QualityValue, quality_of}
use Rattle.mds_marks.specs.Reason.{ReasonValue, code_of, is_reason_text, reason_of}
use Rattle.mds_marks.specs.declared.mark.Mark.{Mark}
use Rattle.mds_marks.specs.declared.mark.MarkRef.{MarkRef}
use Rattle.mds_marks.specs.declared.reason.ReasonRef.{ReasonRef}
use Rattle.mds_terms.specs.BorrowedTexts.{text_of}
use Rattle.mds_terms.specs.Parts.{optional}
use Rattle.mds_terms.specs.Printable.{is_printable}
use Rattle.mds_terms.specs.declared.printable.PrintableText.{PrintableText}
use Rattle.mds_records.specs.Layouts.{has_flag, interval_number_of, is_single_quality}
use Rattle.mds_records.proofs.Rules.{suc_is_not}

-- the empty text is no date and time, no day, no unit, no number of an interval and no quality
pub no_date_time : is_some (date_time_of []) ≡ false
unfolding date_time_of moment_of day_of
no_date_time = refl

pub no_day : is_some (day_of []) ≡ false
unfolding day_of
no_day = refl

pub no_moment : is_some (moment_of []) ≡ false
unfolding moment_of day_of
no_moment = refl

pub no_quantity : is_ok (denoted []) ≡ false
unfolding denoted
no_quantity = refl

pub no_unit : is_some (unit_of []) ≡ false
unfolding unit_of
no_unit = refl

pub no_number : is_some (interval_number_of []) ≡ false
unfolding interval_number_of
no_number = refl

pub no_quality : is_some (quality_of []) ≡ false
unfolding quality_of
no_quality = refl

pub no_single_quality : is_single_quality [] ≡ false
unfolding quality_of
no_single_quality = refl

-- but it is printable, and the code and the text of a reason
pub empty_printable : is_printable [] ≡ true
empty_printable = refl

pub empty_code : is_some (code_of []) ≡ true
empty_code = refl

pub empty_text : is_reason_text [] ≡ true
empty_text = rw (is_utf8-from_IsUtf8 [] IsUtf8-nil, chars-nil) refl

-- what may be empty can be read exactly if it is empty or can be read
pub optional_good : (read : List ℕ → Option ℕ) (text : List ℕ) → is_some (optional read text) ≡ (eqb (length text) 0 || is_some (read text))
optional_good read [] = refl
optional_good read (x ∷ xs) = rw (suc_is_not (length xs)) (mapped (read (x ∷ xs))) where
  mapped : (o : Option ℕ) → is_some (option_map (λ (n : ℕ). Some n) o) ≡ is_some o
  mapped None = refl
  mapped (Some n) = refl

-- the text of a printable text that was read
pub text_read : (o : Option PrintableText) (x : PrintableText) (t : List ℕ) → o ≡ Some x → IfSome o (λ read. text_of read ≡ t) → text_of x ≡ t
text_read None x t e h = absurd (cc)
text_read (Some y) x t e h = let same : text_of x ≡ text_of y = cc in same ∙ h

-- a reason of its code and its text
abbrev reason_from : Bool → Option (Option ℕ) → List ℕ → Option ReasonValue
reason_from good code text = if good then option_map (λ n. record { code = n; text = text }) code else None

reason_good : (r : Option ReasonRef) (good : Bool) (code : Option (Option ℕ)) (text : List ℕ) → option_map reason_value r ≡ reason_from good code text → is_some r ≡ (good && is_some code)
reason_good None true None text e = refl
reason_good None true (Some n) text e = absurd (cc)
reason_good None false code text e = refl
reason_good (Some r) true None text e = absurd (cc)
reason_good (Some r) true (Some n) text e = refl
reason_good (Some r) false code text e = absurd (cc)

-- a reason can be read exactly if its text is good and its code is
pub reason_there : (code text : List ℕ) (r : Option ReasonRef) → option_map reason_value r ≡ reason_of code text → is_some r ≡ (is_reason_text text && is_some (code_of code))
unfolding reason_of
reason_there code text r e = reason_good r (is_reason_text text) (code_of code) text e

pub both_true : (a b : Bool) → true ≡ (a && b) → (true ≡ a) × (true ≡ b)
both_true true true e = (refl, refl)
both_true true false e = absurd (cc)
both_true false b e = absurd (cc)

-- where it was read, both are good
pub reason_parts_of : (code text : List ℕ) (r : Option ReasonRef) (x : ReasonRef) → r ≡ Some x → option_map reason_value r ≡ reason_of code text → (true ≡ is_reason_text text) × (true ≡ is_some (code_of code))
reason_parts_of code text r x is e =
    both_true (is_reason_text text) (is_some (code_of code)) (sym (ap (λ (o : Option ReasonRef). is_some o) is) ∙ reason_there code text r e)

-- a reason of a code alone can be read exactly if that can be
pub code_alone : (code : List ℕ) (r : Option ReasonRef) → option_map reason_value r ≡ reason_of code [] → is_some r ≡ is_some (code_of code)
unfolding reason_of
code_alone code r e = reason_good r (is_reason_text []) (code_of code) [] e ∙ rw empty_text refl

-- and of a text alone
pub text_alone : (text : List ℕ) (r : Option ReasonRef) → option_map reason_value r ≡ reason_of [] text → is_some r ≡ is_reason_text text
unfolding reason_of
text_alone text r e = reason_good r (is_reason_text text) (code_of []) text e ∙ rw empty_code (both (is_reason_text text)) where
  both : (b : Bool) → (b && true) ≡ b
  both true = refl
  both false = refl

-- the parts of a mark are good
pub record HasParts (quality : Option QualityValue) (code : Option (Option ℕ)) (good : Bool) (m : Mark) : Type 0 where
  pub quality_is : Some m.quality ≡ quality
  pub has_code : true ≡ is_some code
  pub has_text : true ≡ good

abbrev mark_from : Option QualityValue → Bool → Option (Option ℕ) → List ℕ → Option Mark
mark_from quality good code text = option_and_then (λ q. option_map (λ r. record { quality = q; reason = r }) (reason_from good code text)) quality

parts_from : (quality : Option QualityValue) (good : Bool) (code : Option (Option ℕ)) (text : List ℕ) (m : Mark) → Some m ≡ mark_from quality good code text → HasParts quality code good m
parts_from None good code text m e = absurd (cc)
parts_from (Some q) false code text m e = absurd (cc)
parts_from (Some q) true None text m e = absurd (cc)
parts_from (Some q) true (Some n) text m e = record {
  quality_is = ap (option_map (λ (x : Mark). x.quality)) e;
  has_code = refl;
  has_text = refl;
}

pub parts_of : (quality code text : List ℕ) (m : Mark) → Some m ≡ mark_of quality code text → HasParts (quality_of quality) (code_of code) (is_reason_text text) m
unfolding mark_of reason_of
parts_of quality code text m e = parts_from (quality_of quality) (is_reason_text text) (code_of code) text m e

-- where its parts are good, there is a mark
whole_from : (quality : Option QualityValue) (good : Bool) (code : Option (Option ℕ)) (text : List ℕ) → is_some quality ≡ true → good ≡ true → is_some code ≡ true → is_some (mark_from quality good code text) ≡ true
whole_from None good code text q g c = absurd (cc)
whole_from (Some q) false code text h g c = absurd (cc)
whole_from (Some q) true None text h g c = absurd (cc)
whole_from (Some q) true (Some n) text h g c = refl

there_of : (quality code text : List ℕ) (m : Option MarkRef) → option_map mark_value m ≡ mark_of quality code text
    → is_some (quality_of quality) ≡ true → is_some (code_of code) ≡ true → is_reason_text text ≡ true → is_some m ≡ true
unfolding mark_of reason_of
there_of quality code text m e q c t = mapped m ∙ ap (λ (o : Option Mark). is_some o) e ∙ whole_from (quality_of quality) (is_reason_text text) (code_of code) text q t c where
  mapped : (o : Option MarkRef) → is_some o ≡ is_some (option_map mark_value o)
  mapped None = refl
  mapped (Some x) = refl

pub mark_there : (quality code text : List ℕ) (m : Option MarkRef) → option_map mark_value m ≡ mark_of quality code text
    → is_some (quality_of quality) ≡ true → is_some (code_of code) ≡ true → is_reason_text text ≡ true → m ≡ None → ⊥
mark_there quality code text m e q c t none = true≢false (sym (there_of quality code text m e q c t) ∙ ap (λ (o : Option MarkRef). is_some o) none)

-- the mark of a line's fields
pub mark_fields : (quality code text : List ℕ) {q c t : List ℕ} (m : Option MarkRef) → quality ≡ q → code ≡ c → text ≡ t
    → option_map mark_value m ≡ mark_of quality code text → option_map mark_value m ≡ mark_of q c t
mark_fields quality code text m eq ec et e = e ∙ rw (eq, ec, et) refl

-- a quality with one of some flags is there
pub flag_there : (letters : List ℕ) (quality : Option QualityValue) → has_flag letters quality ≡ true → is_some quality ≡ true
flag_there letters None h = absurd (cc)
flag_there letters (Some q) h = refl

-- a test of the quality that was read
pub flag_quality : (letters text : List ℕ) {quality : Option QualityValue} → quality ≡ quality_of text → has_flag letters quality ≡ has_flag letters (quality_of text)
flag_quality letters text e = ap (has_flag letters) e

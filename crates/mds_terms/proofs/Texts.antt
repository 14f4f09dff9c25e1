-- Bytes that are text, and what read as a day or a moment.
use Rattle.std.proofs.Common.{◌≡◌, ℕ, ◌<◌, Bool, true, false, ◌&&◌, ◌==◌, cond, List, length, refl, Option, Some, None, Result, Ok, Err, MatchResult, IsOk, arith}
use Rattle.std.proofs.lemmas.Bool.Decides.{nat_tests}
use Rattle.std.proofs.lemmas.List.Elements.{All-weaker}
use Rattle.std.proofs.lemmas.List.Sums.{AllPass-from_list_all}
use Rattle.std.proofs.lemmas.Str.{IsUtf8-from_ascii}
use Rattle.std.proofs.lemmas.Str.Ascii.{IsAscii-from_all}
use Rattle.std.specs.Char.{is_ascii_digit, is_ascii_uppercase}
use Rattle.std.specs.List.{list_all}
use Rattle.std.specs.Option.{option_and_then}
use Rattle.std.specs.Str.{IsUtf8}
use Rattle.mds_calendar.specs.Calendar.{day_of, moment_of, are_digits}
use Rattle.mds_terms.specs.Printable.{is_printable_char}

-- both of two tests hold where their conjunction does
pub both : (a b : Bool) → (a && b) ≡ true → (a ≡ true) × (b ≡ true)
both true true e = (refl, refl)
both true false e = (refl, e)
both false b e = absurd (cc)

-- an outcome that is no error is a success
pub ok_from : {T E : Type 0} (r : Result T E) (P : T → Type 0) (Q : E → Type 0) → MatchResult r P Q → ((e : E) → Q e → ⊥) → IsOk r
ok_from (Ok x) P Q h none = refl
ok_from (Err e) P Q h none = absurd (none e h)

-- bytes that are all of a kind below 128 are text
utf8_from : (p : ℕ → Bool) → ((c : ℕ) → p c ≡ true → c < 128) → (bs : List ℕ) → list_all p bs ≡ true → IsUtf8 bs
utf8_from p low bs h = IsUtf8-from_ascii bs (IsAscii-from_all bs (All-weaker (λ c. p c ≡ true) (λ c. c < 128) low bs (AllPass-from_list_all p bs h)))

pub digits_utf8 : (bs : List ℕ) → list_all is_ascii_digit bs ≡ true → IsUtf8 bs
digits_utf8 bs h = utf8_from is_ascii_digit (λ c d. grind (arith, nat_tests)) bs h

pub letters_utf8 : (bs : List ℕ) → list_all is_ascii_uppercase bs ≡ true → IsUtf8 bs
letters_utf8 bs h = utf8_from is_ascii_uppercase (λ c d. grind (arith, nat_tests)) bs h

pub printable_utf8 : (bs : List ℕ) → list_all is_printable_char bs ≡ true → IsUtf8 bs
printable_utf8 bs h = utf8_from is_printable_char (λ c d. grind (arith, nat_tests)) bs h

-- what a choice that made a value chose by
if_some : (b : Bool) (x n : ℕ) → cond b (Some x) None ≡ Some n → b ≡ true
if_some true x n e = refl
if_some false x n e = absurd (cc)

then_some : (o : Option ℕ) (b : Bool) (f : ℕ → ℕ) (n : ℕ) → option_and_then (λ x. cond b (Some (f x)) None) o ≡ Some n → b ≡ true
then_some (Some x) b f n e = if_some b (f x) n e
then_some None b f n e = absurd (cc)

-- a day is digits
pub day_is_digits : (text : List ℕ) (n : ℕ) → day_of text ≡ Some n → list_all is_ascii_digit text ≡ true
unfolding day_of
day_is_digits text n e = (both (length text == 8) (list_all is_ascii_digit text) (both (are_digits 8 text) _ (if_some _ _ n e)).0).1

-- and so is a moment
pub moment_is_digits : (text : List ℕ) (n : ℕ) → moment_of text ≡ Some n → list_all is_ascii_digit text ≡ true
unfolding moment_of
moment_is_digits text n e = (both (length text == 14) (list_all is_ascii_digit text) (both (are_digits 14 text) _ (then_some _ _ _ n e)).0).1

-- Digits as text.
use Rattle.std.proofs.Common.{◌≡◌, ℕ, ◌<◌, Bool, true, ◌==◌, List, length, refl, arith, MatchResult, IsOk, Ok, Err, Result}
use Rattle.std.proofs.lemmas.Bool.Decides.{nat_tests}
use Rattle.std.proofs.lemmas.List.Elements.{All-weaker}
use Rattle.std.proofs.lemmas.List.Sums.{AllPass-from_list_all}
use Rattle.std.proofs.lemmas.Str.{IsUtf8-from_ascii}
use Rattle.std.proofs.lemmas.Str.Ascii.{IsAscii-from_all}
use Rattle.std.specs.Char.{is_ascii_digit}
use Rattle.std.specs.List.{list_all}
use Rattle.std.specs.Str.{IsUtf8}
use Rattle.mds_calendar.specs.Calendar.{are_digits}
use Rattle.mds_calendar.proofs.Digits.{both}

-- an outcome that is no error is a success
pub ok_from : {T E : Type 0} (r : Result T E) (P : T → Type 0) (Q : E → Type 0) → MatchResult r P Q → ((e : E) → Q e → ⊥) → IsOk r
ok_from (Ok x) P Q h none = refl
ok_from (Err e) P Q h none = absurd (none e h)

-- bytes that are all of a kind below 128 are text
utf8_from : (p : ℕ → Bool) → ((c : ℕ) → p c ≡ true → c < 128) → (bs : List ℕ) → list_all p bs ≡ true → IsUtf8 bs
utf8_from p low bs h = IsUtf8-from_ascii bs (IsAscii-from_all bs (All-weaker (λ c. p c ≡ true) (λ c. c < 128) low bs (AllPass-from_list_all p bs h)))

pub digits_utf8 : (bs : List ℕ) → list_all is_ascii_digit bs ≡ true → IsUtf8 bs
digits_utf8 bs h = utf8_from is_ascii_digit (λ c d. grind (arith, nat_tests)) bs h

pub are_digits_utf8 : (n : ℕ) (bs : List ℕ) → are_digits n bs ≡ true → IsUtf8 bs
are_digits_utf8 n bs h = digits_utf8 bs (both (length bs == n) (list_all is_ascii_digit bs) h).1

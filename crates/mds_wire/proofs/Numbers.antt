-- Numbers of decimal digits.
use Rattle.std.proofs.Common.{◌≡◌, ℕ, ◌+◌, ◌-◌, ◌*◌, ◌<◌, min, true, List, length, take, get_or, arith}
use Rattle.std.proofs.lemmas.Bool.Decides.{nat_tests}
use Rattle.std.proofs.lemmas.Int.Digits.{digits_value_more}
use Rattle.std.proofs.lemmas.List.Folds.{list_all_more}
use Rattle.std.specs.Char.{is_ascii_digit, digit_value}
use Rattle.std.specs.List.{list_all}
use Rattle.std.specs.Str.Parse.{digits_value}

digit_value_is : (c : ℕ) → is_ascii_digit c ≡ true → (digit_value c + 48 ≡ c) × (digit_value c < 10)
digit_value_is c h = (grind (arith, nat_tests), grind (arith, nat_tests))

-- one more digit, up to a most
pub digits_step : (bs : List ℕ) (i n m : ℕ) → i < length bs → is_ascii_digit (get_or bs i 0) ≡ true → list_all is_ascii_digit (take i bs) ≡ true
    → n ≡ min (digits_value 10 (take i bs)) m
    → (list_all is_ascii_digit (take (i + 1) bs) ≡ true) × (min (n * 10 + (get_or bs i 0 - 48)) m ≡ min (digits_value 10 (take (i + 1) bs)) m)
digits_step bs i n m within digit all e =
    let v = digit_value_is (get_or bs i 0) digit in
    let more = digits_value_more 10 bs i within in
    let every = list_all_more is_ascii_digit bs i 0 within in
    (rw (every, all, digit), rw more (omega arith))

-- Numbers of decimal digits.
use Rattle.std.proofs.Common.{◌≡◌, ℕ, ◌+◌, ◌-◌, ◌*◌, ◌^◌, ◌<◌, Bool, true, false, ◌&&◌, List, [], ◌∷◌, length, take, get_or, refl, arith}
use Rattle.std.proofs.lemmas.Bool.Decides.{nat_tests}
use Rattle.std.proofs.lemmas.Grind.{pow_more}
use Rattle.std.proofs.lemmas.Int.Digits.{digits_value_more, digits_value-lt}
use Rattle.std.proofs.lemmas.List.Folds.{list_all_more}
use Rattle.std.specs.Char.{is_ascii_digit, digit_value}
use Rattle.std.specs.List.{list_all}
use Rattle.std.specs.Str.Parse.{digits_value, digits_value_after, AllDigits}

-- the value of a decimal digit
pub digit_value_is : (c : ℕ) → is_ascii_digit c ≡ true → (digit_value c + 48 ≡ c) × (digit_value c < 10)
digit_value_is c h = (grind (arith, nat_tests), grind (arith, nat_tests))

-- the digit of a value
pub digit_char : (d : ℕ) → d < 10 → (is_ascii_digit (48 + d) ≡ true) × (digit_value (48 + d) ≡ d)
digit_char d h = (grind (arith, nat_tests), grind (arith, nat_tests))

-- one more digit
pub digits_step : (bs : List ℕ) (i n : ℕ) → i < length bs → is_ascii_digit (get_or bs i 0) ≡ true → list_all is_ascii_digit (take i bs) ≡ true → n ≡ digits_value 10 (take i bs) → n < 10 ^ i → (list_all is_ascii_digit (take (i + 1) bs) ≡ true) × (n * 10 + (get_or bs i 0 - 48) ≡ digits_value 10 (take (i + 1) bs)) × (n * 10 + (get_or bs i 0 - 48) < 10 ^ (i + 1))
digits_step bs i n within digit all e small =
    let v = digit_value_is (get_or bs i 0) digit in
    let more = digits_value_more 10 bs i within in
    let every = list_all_more is_ascii_digit bs i 0 within in
    (rw (every, all, digit), rw more (omega arith), omega (arith, pow_more 10 i))

-- both of two tests hold where their conjunction does
pub both : (a b : Bool) → (a && b) ≡ true → (a ≡ true) × (b ≡ true)
both true true e = (refl, refl)
both true false e = (refl, e)
both false b e = absurd (cc)

-- a text of so many digits is known by its number
same_after : (n m : ℕ) (xs ys : List ℕ) → length xs ≡ length ys → list_all is_ascii_digit xs ≡ true → list_all is_ascii_digit ys ≡ true → digits_value_after 10 n xs ≡ digits_value_after 10 m ys → (n ≡ m) × (xs ≡ ys)
same_after n m [] [] len all every e = (e, refl)
same_after n m [] (y ∷ ys) len all every e = absurd (omega (arith, len))
same_after n m (x ∷ xs) [] len all every e = absurd (omega (arith, len))
same_after n m (x ∷ xs) (y ∷ ys) len all every e =
    let a = both (is_ascii_digit x) (list_all is_ascii_digit xs) all in
    let b = both (is_ascii_digit y) (list_all is_ascii_digit ys) every in
    let v = digit_value_is x a.0 in
    let w = digit_value_is y b.0 in
    let h = same_after (n * 10 + digit_value x) (m * 10 + digit_value y) xs ys (omega (arith, len)) a.1 b.1 e in
    let c : x ≡ y = omega (arith, h.0) in
    let t = h.1 in
    (omega (arith, h.0), cc)

-- the same at once
pub same_digits : (xs ys : List ℕ) → length xs ≡ length ys → list_all is_ascii_digit xs ≡ true → list_all is_ascii_digit ys ≡ true → digits_value 10 xs ≡ digits_value 10 ys → xs ≡ ys
same_digits xs ys len all every e = (same_after 0 0 xs ys len all every e).1

-- a number of digits is below that power of ten
all_digits : (bs : List ℕ) → list_all is_ascii_digit bs ≡ true → AllDigits 10 bs
all_digits [] h = tt
all_digits (b ∷ bs) h =
    let p = both (is_ascii_digit b) (list_all is_ascii_digit bs) h in
    let v = digit_value_is b p.0 in
    (omega arith, all_digits bs p.1)

pub digits_value_small : (bs : List ℕ) → list_all is_ascii_digit bs ≡ true → digits_value 10 bs < 10 ^ length bs
digits_value_small bs h = digits_value-lt 10 bs (all_digits bs h)

-- Days, their numbers and their texts.
use Rattle.std.proofs.Common.{◌≡◌, ℕ, ◌+◌, ◌*◌, ◌/◌, ◌%◌, ◌^◌, ◌<◌, ◌≤◌, Bool, true, false, ◌&&◌, ◌==◌, cond, codes, nat_le, List, [], ◌∷◌, ◌++◌, length, take, drop, refl, sym, ap, ◌∙◌, arith, rules, ℤ, pos, negsuc, unsigned_abs, to_z, w8, w16, Option, Some, None}
use Rattle.std.proofs.lemmas.Bool.{false_from_ne_true}
use Rattle.std.proofs.lemmas.Int.{to_z_pos}
use Rattle.std.proofs.lemmas.List.{take-append-drop, take_all, length-take, length-drop, drop-drop}
use Rattle.std.proofs.lemmas.List.Folds.{list_all-append}
use Rattle.std.specs.Char.{is_ascii_digit}
use Rattle.std.specs.List.{list_all}
use Rattle.std.specs.Str.Parse.{digits_value}
use Rattle.std.proofs.lemmas.Bool.Decides.{nat_tests}
use Rattle.jiff.specs.Types.{Date}
use Rattle.jiff.specs.Words.{epoch_day, days_in_month, IsYear, IsDate, IsYmd}
use Rattle.jiff.proofs.SpanFacts.{signed_arith}
use Rattle.jiff.proofs.Family.{epoch_day_range, epoch_day_injective, days_from_civil-max}
use Rattle.mds_calendar.specs.Calendar.{day_of, days_of_months, day_number, is_date, are_digits, number_at, last_day, weekday_of}
use Rattle.mds_calendar.proofs.Numbers.{month_bounds, epoch_day_is, year_from_number}
use Rattle.mds_calendar.proofs.Digits.{both, same_digits, digits_value_small, digit_char}

-- what a test of the parts of a date says
parts_hold : (y m d k : ℕ) → (nat_le 1970 y && nat_le 1 m && nat_le m 12 && nat_le 1 d && nat_le d k) ≡ true → (1970 ≤ y) × (1 ≤ m) × (m ≤ 12) × (1 ≤ d) × (d ≤ k)
parts_hold y m d k h =
    (grind (arith, nat_tests), grind (arith, nat_tests), grind (arith, nat_tests), grind (arith, nat_tests), grind (arith, nat_tests))

hold_parts : (y m d k : ℕ) → 1970 ≤ y → 1 ≤ m → m ≤ 12 → 1 ≤ d → d ≤ k → (nat_le 1970 y && nat_le 1 m && nat_le m 12 && nat_le 1 d && nat_le d k) ≡ true
hold_parts y m d k a b c e f = grind (arith, nat_tests)

-- a date from 1970 to 9999 is one that the calendar has
pub date_is : (y m d : ℕ) → is_date y m d ≡ true → y < 10_000 → IsDate (pos y) (pos m) (pos d)
date_is y m d h small =
    let p = parts_hold y m d (days_in_month (pos y) m) h in
    ((omega (arith, signed_arith), omega (arith, signed_arith)), (omega (arith, signed_arith), omega (arith, signed_arith)), (omega (arith, signed_arith), omega (arith, signed_arith)))

-- such a date as jiff's
date_of : (y m d : ℕ) → is_date y m d ≡ true → y < 10_000 → Date
date_of y m d h small =
    let p = parts_hold y m d (days_in_month (pos y) m) h in
    record { year = pos y; month = m; day = d; year_in = omega (arith, signed_arith); month_in = (p.1, p.2); day_in = (p.3, p.4) }

-- which has the number of the definition
date_of_number : (y m d : ℕ) (h : is_date y m d ≡ true) (small : y < 10_000) → epoch_day (date_of y m d h small) ≡ pos (day_number y m d)
unfolding date_of
date_of_number y m d h small = epoch_day_is y m d (date_of y m d h small) (parts_hold y m d (days_in_month (pos y) m) h).0 refl refl refl

-- its number is no more than the last
pub day_number_last : (y m d : ℕ) → is_date y m d ≡ true → y < 10_000 → day_number y m d ≤ last_day
day_number_last y m d h small =
    omega (arith, signed_arith, date_of_number y m d h small, epoch_day_range (date_of y m d h small))

-- two days with one number are one day
pub day_number_injective : (y m d y₂ m₂ d₂ : ℕ) → is_date y m d ≡ true → y < 10_000 → is_date y₂ m₂ d₂ ≡ true → y₂ < 10_000 → day_number y m d ≡ day_number y₂ m₂ d₂ → (y ≡ y₂) × (m ≡ m₂) × (d ≡ d₂)
unfolding date_of
day_number_injective y m d y₂ m₂ d₂ h small h₂ small₂ e =
    let n = date_of_number y m d h small in
    let k = date_of_number y₂ m₂ d₂ h₂ small₂ in
    let same = epoch_day_injective (date_of y m d h small) (date_of y₂ m₂ d₂ h₂ small₂) (n ∙ (ap pos e ∙ sym k)) in
    let p = same.0 in
    (cc, same.1, same.2)

-- a number below 100 as two digits, before others
abbrev pub two_digits : ℕ → List ℕ → List ℕ
two_digits n rest = (48 + n / 10) ∷ (48 + n % 10) ∷ rest

-- the digits of a year, a month and a day
abbrev pub date_text : ℕ → ℕ → ℕ → List ℕ
date_text y m d = two_digits (y / 100) (two_digits (y % 100) (two_digits m (two_digits d [])))

-- eight digits as a day
day_of_digits : (a b c d e f g h : ℕ) → a < 10 → b < 10 → c < 10 → d < 10 → e < 10 → f < 10 → g < 10 → h < 10 → day_of ((48 + a) ∷ (48 + b) ∷ (48 + c) ∷ (48 + d) ∷ (48 + e) ∷ (48 + f) ∷ (48 + g) ∷ (48 + h) ∷ []) ≡ cond (is_date ((((0 * 10 + a) * 10 + b) * 10 + c) * 10 + d) ((0 * 10 + e) * 10 + f) ((0 * 10 + g) * 10 + h)) (Some (day_number ((((0 * 10 + a) * 10 + b) * 10 + c) * 10 + d) ((0 * 10 + e) * 10 + f) ((0 * 10 + g) * 10 + h))) None
unfolding day_of
day_of_digits a b c d e f g h ha hb hc hd he hf hg hh =
    let va = digit_char a ha in
    let vb = digit_char b hb in
    let vc = digit_char c hc in
    let vd = digit_char d hd in
    let ve = digit_char e he in
    let vf = digit_char f hf in
    let vg = digit_char g hg in
    let vh = digit_char h hh in
    rw (va.0, vb.0, vc.0, vd.0, ve.0, vf.0, vg.0, vh.0, va.1, vb.1, vc.1, vd.1, ve.1, vf.1, vg.1, vh.1)

-- the text of a date reads as its number
pub day_of_date_text : (y m d : ℕ) → is_date y m d ≡ true → y < 10_000 → day_of (date_text y m d) ≡ Some (day_number y m d)
day_of_date_text y m d h small =
    let p = parts_hold y m d (days_in_month (pos y) m) h in
    let long = month_bounds (pos y) m in
    let e = day_of_digits (y / 100 / 10) (y / 100 % 10) (y % 100 / 10) (y % 100 % 10) (m / 10) (m % 10) (d / 10) (d % 10) (omega arith) (omega arith) (omega arith) (omega arith) (omega arith) (omega arith) (omega arith) (omega arith) in
    let year : (((0 * 10 + y / 100 / 10) * 10 + y / 100 % 10) * 10 + y % 100 / 10) * 10 + y % 100 % 10 ≡ y = omega arith in
    let month : (0 * 10 + m / 10) * 10 + m % 10 ≡ m = omega arith in
    let day : (0 * 10 + d / 10) * 10 + d % 10 ≡ d = omega arith in
    e ∙ rw (year, month, day, h)

-- what is known where a choice made a value
if_some : (b : Bool) (x n : ℕ) → cond b (Some x) None ≡ Some n → (b ≡ true) × (x ≡ n)
if_some true x n e = (refl, cc)
if_some false x n e = absurd (cc)

-- what is known of a text that is a day
pub day_of_parts : (text : List ℕ) (n : ℕ) → day_of text ≡ Some n → (are_digits 8 text ≡ true) × (is_date (number_at 0 4 text) (number_at 4 2 text) (number_at 6 2 text) ≡ true) × (day_number (number_at 0 4 text) (number_at 4 2 text) (number_at 6 2 text) ≡ n)
unfolding day_of
day_of_parts text n e =
    let i = if_some (are_digits 8 text && is_date (number_at 0 4 text) (number_at 4 2 text) (number_at 6 2 text)) (day_number (number_at 0 4 text) (number_at 4 2 text) (number_at 6 2 text)) n e in
    let b = both (are_digits 8 text) (is_date (number_at 0 4 text) (number_at 4 2 text) (number_at 6 2 text)) i.0 in
    (b.0, b.1, i.1)

-- a text of eight digits is its year, month and day
eight_cuts : (text : List ℕ) → length text ≡ 8 → text ≡ take 4 text ++ (take 2 (drop 4 text) ++ take 2 (drop 6 text))
eight_cuts text e =
    let front = take-append-drop 4 text in
    let back = take-append-drop 2 (drop 4 text) in
    let cut = drop-drop 2 4 text in
    let last = take_all 2 (drop 6 text) (omega (arith, length-drop 6 text)) in
    cc

-- and is of digits if they are
are_digits_cut : (text : List ℕ) → length text ≡ 8 → are_digits 8 text ≡ (list_all is_ascii_digit (take 4 text) && (list_all is_ascii_digit (take 2 (drop 4 text)) && list_all is_ascii_digit (take 2 (drop 6 text))))
are_digits_cut text len =
    let cuts = eight_cuts text len in
    rw len (ap (list_all is_ascii_digit) cuts ∙ (list_all-append is_ascii_digit (take 4 text) (take 2 (drop 4 text) ++ take 2 (drop 6 text)) ∙ ap (λ x. list_all is_ascii_digit (take 4 text) && x) (list_all-append is_ascii_digit (take 2 (drop 4 text)) (take 2 (drop 6 text)))))

-- a text of another length is no day
pub day_of_other : (text : List ℕ) → (length text ≡ 8 → ⊥) → day_of text ≡ None
unfolding day_of
day_of_other text h =
    let e : (length text == 8) ≡ false = grind (arith, nat_tests) in
    rw e

-- the number that digits say
abbrev pub number_of : List ℕ → Option ℕ
number_of text = cond (list_all is_ascii_digit text) (Some (digits_value 10 text)) None

-- the day of a year, a month and a day
abbrev pub day_from : Option ℕ → Option ℕ → Option ℕ → Option ℕ
day_from (Some y) (Some m) (Some d) = cond (is_date y m d) (Some (day_number y m d)) None
day_from (Some y) (Some m) None = None
day_from (Some y) None d = None
day_from None m d = None

-- the tests of the parts, one at a time or at once
joined : (p q r : Bool) (y m d : ℕ) → cond ((p && (q && r)) && is_date y m d) (Some (day_number y m d)) None ≡ day_from (cond p (Some y) None) (cond q (Some m) None) (cond r (Some d) None)
joined true true true y m d = refl
joined true true false y m d = refl
joined true false r y m d = refl
joined false q r y m d = refl

-- eight bytes are the day of their parts
pub day_of_parts_is : (text : List ℕ) → length text ≡ 8 → day_of text ≡ day_from (number_of (take 4 text)) (number_of (take 2 (drop 4 text))) (number_of (take 2 (drop 6 text)))
unfolding day_of
day_of_parts_is text len =
    let e = joined (list_all is_ascii_digit (take 4 text)) (list_all is_ascii_digit (take 2 (drop 4 text))) (list_all is_ascii_digit (take 2 (drop 6 text))) (number_at 0 4 text) (number_at 4 2 text) (number_at 6 2 text) in
    ap (λ b. cond (b && is_date (number_at 0 4 text) (number_at 4 2 text) (number_at 6 2 text)) (Some (day_number (number_at 0 4 text) (number_at 4 2 text) (number_at 6 2 text))) None) (are_digits_cut text len) ∙ e

-- so it is none where a part is none
pub no_year : (text : List ℕ) → length text ≡ 8 → None ≡ number_of (take 4 text) → None ≡ day_of text
no_year text len n = rw (day_of_parts_is text len, sym n)

pub no_month : (text : List ℕ) (y : ℕ) → length text ≡ 8 → Some y ≡ number_of (take 4 text) → None ≡ number_of (take 2 (drop 4 text)) → None ≡ day_of text
no_month text y len e n = rw (day_of_parts_is text len, sym e, sym n)

pub no_day : (text : List ℕ) (y m : ℕ) → length text ≡ 8 → Some y ≡ number_of (take 4 text) → Some m ≡ number_of (take 2 (drop 4 text)) → None ≡ number_of (take 2 (drop 6 text)) → None ≡ day_of text
no_day text y m len e k n = rw (day_of_parts_is text len, sym e, sym k, sym n)

-- and else the day of the parts' numbers
pub day_is : (text : List ℕ) (y m d : ℕ) → length text ≡ 8 → Some y ≡ number_of (take 4 text) → Some m ≡ number_of (take 2 (drop 4 text)) → Some d ≡ number_of (take 2 (drop 6 text)) → day_of text ≡ cond (is_date y m d) (Some (day_number y m d)) None
day_is text y m d len e k n = rw (day_of_parts_is text len, sym e, sym k, sym n)

-- what the calendar has not is no date
pub is_date_not : (y m d : ℕ) → y < 10_000 → (IsDate (pos y) (pos m) (pos d) → ⊥) → is_date y m d ≡ false
is_date_not y m d small h = false_from_ne_true (is_date y m d) (λ e. h (date_is y m d e small))

-- so what its parts are
pub parts_are : (text : List ℕ) → are_digits 8 text ≡ true → (length text ≡ 8) × (list_all is_ascii_digit (take 4 text) ≡ true) × (list_all is_ascii_digit (take 2 (drop 4 text)) ≡ true) × (list_all is_ascii_digit (take 2 (drop 6 text)) ≡ true) × (number_at 0 4 text < 10_000)
parts_are text h =
    let b = both (length text == 8) (list_all is_ascii_digit text) h in
    let t = b.0 in
    let len : length text ≡ 8 = grind (arith, nat_tests) in
    let split = sym (are_digits_cut text len) ∙ h in
    let p = both (list_all is_ascii_digit (take 4 text)) (list_all is_ascii_digit (take 2 (drop 4 text)) && list_all is_ascii_digit (take 2 (drop 6 text))) split in
    let q = both (list_all is_ascii_digit (take 2 (drop 4 text))) (list_all is_ascii_digit (take 2 (drop 6 text))) p.1 in
    let four : length (take 4 text) ≡ 4 = omega (arith, length-take 4 text) in
    (len, p.0, q.0, q.1, rw four at (digits_value_small (take 4 text) p.0))

-- a day has one text
pub one_day_text : (a b : List ℕ) (n : ℕ) → day_of a ≡ Some n → day_of b ≡ Some n → a ≡ b
one_day_text a b n ea eb =
    let p = day_of_parts a n ea in
    let q = day_of_parts b n eb in
    let s = parts_are a p.0 in
    let t = parts_are b q.0 in
    let same = day_number_injective (number_at 0 4 a) (number_at 4 2 a) (number_at 6 2 a) (number_at 0 4 b) (number_at 4 2 b) (number_at 6 2 b) p.1 s.4 q.1 t.4 (p.2 ∙ sym q.2) in
    let year = same_digits (take 4 a) (take 4 b) (omega (arith, length-take 4 a, length-take 4 b, s.0, t.0)) s.1 t.1 same.0 in
    let month = same_digits (take 2 (drop 4 a)) (take 2 (drop 4 b)) (simp (length-take, length-drop) (omega (arith, s.0, t.0))) s.2 t.2 same.1 in
    let day = same_digits (take 2 (drop 6 a)) (take 2 (drop 6 b)) (simp (length-take, length-drop) (omega (arith, s.0, t.0))) s.3 t.3 same.2 in
    let front = eight_cuts a s.0 in
    let back = eight_cuts b t.0 in
    cc

-- a year's magnitude fits 15 bits
pub year_fits : (y : ℤ) → IsYear y → unsigned_abs y < 2 ^ 15
year_fits (pos y) h = omega (arith, signed_arith)
year_fits (negsuc y) h = omega (arith, signed_arith)

-- the text of the date of a day's number reads as that number
digits_of_year : (year : ℤ) (n : ℕ) (date : Date) → year ≡ date.year → epoch_day date ≡ pos n → day_of (date_text (unsigned_abs year) date.month date.day) ≡ Some n
digits_of_year (pos y) n date is e =
    let low : 1970 ≤ y = omega (arith, signed_arith, year_from_number date n e, is) in
    let long = ap (λ z. days_in_month z date.month) is in
    let held = hold_parts y date.month date.day (days_in_month (pos y) date.month) low (omega (arith, date.month_in)) (omega (arith, date.month_in)) (omega (arith, date.day_in)) (omega (arith, date.day_in, long)) in
    let number = epoch_day_is y date.month date.day date low (sym is) refl refl in
    let same : day_number y date.month date.day ≡ n = omega (arith, signed_arith, number, e) in
    day_of_date_text y date.month date.day held (omega (arith, signed_arith, is, date.year_in)) ∙ ap Some same
digits_of_year (negsuc y) n date is e =
    absurd (omega (arith, signed_arith, is, year_from_number date n e))

pub digits_of_date : (date : Date) (n : ℕ) → epoch_day date ≡ pos n → day_of (date_text (unsigned_abs date.year) date.month date.day) ≡ Some n
digits_of_date date n e = digits_of_year date.year n date refl e

-- the first and the last day
pub first_day_text : day_of (codes "19700101") ≡ Some 0
unfolding day_of days_of_months
first_day_text = refl

last : Date
last = record { year = pos 9999; month = 12; day = 31; year_in = search rules; month_in = search rules; day_in = search rules }

last_number : day_number 9999 12 31 ≡ last_day
unfolding last
last_number =
    let e = epoch_day_is 9999 12 31 last (omega arith) refl refl refl in
    omega (arith, signed_arith, e, days_from_civil-max)

pub last_day_text : day_of (codes "99991231") ≡ Some last_day
unfolding day_of
last_day_text = ap Some last_number

-- a date of these parts is one from 1970 on, and has their number
pub number_is : (y m d : ℕ) (date : Date) → 1970 ≤ y → y < 10_000 → m < 100 → d < 100 → IsYmd (to_z w16 y) (to_z w8 m) (to_z w8 d) date → (is_date y m d ≡ true) × (epoch_day date ≡ pos (day_number y m d)) × (day_number y m d ≤ last_day)
number_is y m d date low small month_small day_small h =
    let year = h.0 ∙ to_z_pos w16 y (omega arith) in
    let k = h.1 ∙ to_z_pos w8 m (omega arith) in
    let l = h.2 ∙ to_z_pos w8 d (omega arith) in
    let month : date.month ≡ m = cc in
    let day : date.day ≡ d = cc in
    let long : days_in_month date.year date.month ≡ days_in_month (pos y) m = rw (year, month) refl in
    let is : is_date y m d ≡ true = hold_parts y m d (days_in_month (pos y) m) low (omega (arith, date.month_in)) (omega (arith, date.month_in)) (omega (arith, date.day_in)) (omega (arith, date.day_in, long)) in
    (is, epoch_day_is y m d date low year month day, day_number_last y m d is small)

-- equal parts make the same date
pub date_moved : (a b c x y z : ℤ) → a ≡ x → b ≡ y → c ≡ z → IsDate x y z → IsDate a b c
date_moved a b c x y z p q r h = rw (p, q, r) h

-- the weekdays of day 0, of the next day, and of the day a week later
pub first_weekday : weekday_of 0 ≡ 3
unfolding weekday_of
first_weekday = refl

pub next_weekday : (day : ℕ) → weekday_of (day + 1) ≡ (weekday_of day + 1) % 7
unfolding weekday_of
next_weekday day = omega arith

pub same_weekday : (day : ℕ) → weekday_of (day + 7) ≡ weekday_of day
unfolding weekday_of
same_weekday day = omega arith

-- the weekday of a day that comes so many days later, and the greatest number of a weekday
pub weekday_later : (day later days : ℕ) → later ≡ day + days → weekday_of later ≡ (weekday_of day + days) % 7
unfolding weekday_of
weekday_later day later days e = omega (arith, e)

pub weekday_bound : (day : ℕ) → weekday_of day < 7
unfolding weekday_of
weekday_bound day = omega arith

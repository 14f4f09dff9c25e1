-- Days and moments of market time, which has no daylight saving. MDFF Specification: Date(8), CCYYMMDD, and
-- DateTime(14), CCYYMMDDhhmmss, or DateTime(12) without the seconds. The range, from 1970 to 9999, is this project's
-- profile.
-- The length of a month is that of the library jiff, its `days_in_month`.
use Rattle.std.specs.Prelude.{ℕ, zero, suc, ◌+◌, ◌-◌, ◌*◌, ◌/◌, ◌%◌, Bool, ◌&&◌, ◌==◌, nat_lt, nat_le, if◌then◌else◌, List, ◌++◌, length, take, drop, codes, pos, Option, Some, None, option_and_then}
use Rattle.std.specs.Char.{is_ascii_digit}
use Rattle.std.specs.List.{list_all}
use Rattle.std.specs.Str.Parse.{digits_value}
use Rattle.jiff.specs.Words.{days_in_month}

-- exactly this many digits
abbrev pub are_digits : ℕ → List ℕ → Bool
are_digits n text = (length text == n) && list_all is_ascii_digit text

-- the number spelled by n digits from a position on
abbrev pub number_at : ℕ → ℕ → List ℕ → ℕ
number_at start n text = digits_value 10 (take n (drop start text))

-- the calendar has this day, and it is in 1970 or later
abbrev pub is_date : ℕ → ℕ → ℕ → Bool
is_date year month day =
    nat_le 1970 year && nat_le 1 month && nat_le month 12 && nat_le 1 day && nat_le day (days_in_month (pos year) month)

-- the number of days in the first n months from January 1970 on
unfoldable pub days_of_months : ℕ → ℕ
days_of_months zero = 0
days_of_months (suc n) = days_of_months n + days_in_month (pos (1970 + n / 12)) (n % 12 + 1)

-- the day number of a date from 1970 on: 0 for 1 January 1970
abbrev pub day_number : ℕ → ℕ → ℕ → ℕ
day_number year month day = days_of_months ((year - 1970) * 12 + (month - 1)) + (day - 1)

-- the number of the last day, 31 December 9999
abbrev pub last_day : ℕ
last_day = 2_932_896

-- the day that a text of the form CCYYMMDD denotes, by its number
unfoldable pub day_of : List ℕ → Option ℕ
day_of text =
    let year = number_at 0 4 text in
    let month = number_at 4 2 text in
    let day = number_at 6 2 text in
    if are_digits 8 text && is_date year month day then Some (day_number year month day) else None

-- the weekday of a day, from 0 for Monday to 6 for Sunday: 1 January 1970 was a Thursday
unfoldable pub weekday_of : ℕ → ℕ
weekday_of day = (day + 3) % 7

-- the seconds of a day
abbrev pub day_seconds : ℕ
day_seconds = 86_400

-- hours from 00 to 23, minutes and seconds from 00 to 59
abbrev pub is_time : ℕ → ℕ → ℕ → Bool
is_time hour minute second = nat_lt hour 24 && nat_lt minute 60 && nat_lt second 60

-- the moment that a text of the form CCYYMMDDhhmmss denotes, in seconds from the midnight of 1 January 1970
unfoldable pub moment_of : List ℕ → Option ℕ
moment_of text =
    let hour = number_at 8 2 text in
    let minute = number_at 10 2 text in
    let second = number_at 12 2 text in
    option_and_then (λ day.
    if are_digits 14 text && is_time hour minute second
    then Some (day * day_seconds + hour * 3_600 + minute * 60 + second)
    else None) (day_of (take 8 text))

-- the moment that the DateTime of a 100 record denotes: with 12 digits its seconds are 00
unfoldable pub date_time_of : List ℕ → Option ℕ
date_time_of text = if length text == 12 then moment_of (text ++ codes "00") else moment_of text

-- The number of a date: what the library jiff counts is what the lengths of the months add up to.
use Rattle.std.proofs.Common.{◌≡◌, ℕ, zero, suc, ◌+◌, ◌-◌, ◌*◌, ◌/◌, ◌%◌, ◌≤◌, inl, inr, refl, arith, rules, ℤ, pos, neg_ℤ, ◌+ℤ◌, ◌≤ℤ◌}
use Rattle.std.proofs.lemmas.Bool.{cases_lt}
use Rattle.std.proofs.lemmas.Int.{by_lt_z}
use Rattle.jiff.specs.Types.{Date}
use Rattle.jiff.specs.Words.{epoch_day, weekday_of as weekday_number_of, days_in_month, IsYmd}
use Rattle.jiff.proofs.SpanFacts.{signed_arith}
use Rattle.jiff.proofs.Family.{epoch_day-lt, days_from_civil-day, days_from_civil-next_month, days_from_civil-next_year}
use Rattle.jiff.proofs.OnLiterals.{jiff_on_literals}
use Rattle.mds_calendar.specs.Calendar.{days_of_months, day_number, weekday_of}

-- a month has 28 to 31 days
pub month_bounds : (y : ℤ) (m : ℕ) → (28 ≤ days_in_month y m) × (days_in_month y m ≤ 31)
month_bounds y m = grind arith

-- 1 January 1970 has the number 0
first : Date
first = record { year = pos 1970; month = 1; day = 1; year_in = search rules; month_in = search rules; day_in = search rules }

first_is : epoch_day first ≡ pos 0
unfolding first jiff_on_literals
first_is = refl

pub first_number : (date : Date) → IsYmd (pos 1970) (pos 1) (pos 1) date → epoch_day date ≡ pos 0
unfolding first
first_number date h =
    let month : date.month ≡ 1 = cc in
    let day : date.day ≡ 1 = cc in
    rw (h.0, month, day) first_is

-- a count of days that goes on from day to day, from month to month and from year to year counts the days of the months
counted : (F : ℤ → ℕ → ℕ → ℤ)
    → ((y : ℤ) (m d e : ℕ) → 1 ≤ d → 1 ≤ e → F y m d +ℤ pos e ≡ F y m e +ℤ pos d)
    → ((y : ℤ) (m d : ℕ) → 1 ≤ m → d ≡ days_in_month y m → F y (m + 1) 1 ≡ F y m d +ℤ pos 1)
    → ((y next : ℤ) → neg_ℤ (pos 10000) ≤ℤ y → next ≡ y +ℤ pos 1 → F next 1 1 ≡ F y 12 31 +ℤ pos 1)
    → F (pos 1970) 1 1 ≡ pos 0
    → (n : ℕ) → F (pos (1970 + n / 12)) (n % 12 + 1) 1 ≡ pos (days_of_months n)
unfolding days_of_months
counted F day month year zeroth zero = zeroth
counted F day month year zeroth (suc n) =
    let y = 1970 + n / 12 in
    let m = n % 12 + 1 in
    let k = days_in_month (pos y) m in
    let long = month_bounds (pos y) m in
    let before = counted F day month year zeroth n in
    let within = day (pos y) m 1 k (omega arith) (omega (arith, long)) in
    elim (cases_lt (n % 12) 11) [
      | inl lt ↦
          let same : suc n / 12 ≡ n / 12 = omega arith in
          let next : suc n % 12 + 1 ≡ m + 1 = omega arith in
          let e = month (pos y) m k (omega arith) refl in
          rw (same, next) (omega (arith, signed_arith, e, within, before))
      | inr ge ↦
          let last : m ≡ 12 = omega arith in
          let later : pos (1970 + suc n / 12) ≡ pos y +ℤ pos 1 = omega (arith, signed_arith) in
          let next : suc n % 12 + 1 ≡ 1 = omega arith in
          let whole : k ≡ 31 = rw last refl in
          let e = year (pos y) (pos (1970 + suc n / 12)) (omega (arith, signed_arith)) later in
          let f : F (pos y) m k ≡ F (pos y) 12 31 = rw (whole, last) refl in
          rw next (omega (arith, signed_arith, e, f, within, before))
    ]

-- and so the number of each date
number_from : (F : ℤ → ℕ → ℕ → ℤ)
    → ((y : ℤ) (m d e : ℕ) → 1 ≤ d → 1 ≤ e → F y m d +ℤ pos e ≡ F y m e +ℤ pos d)
    → ((n : ℕ) → F (pos (1970 + n / 12)) (n % 12 + 1) 1 ≡ pos (days_of_months n))
    → (y m d : ℕ) → 1970 ≤ y → 1 ≤ m → m ≤ 12 → 1 ≤ d → F (pos y) m d ≡ pos (day_number y m d)
number_from F day first_days y m d low one twelve least =
    let n = (y - 1970) * 12 + (m - 1) in
    let year : 1970 + n / 12 ≡ y = omega arith in
    let month : n % 12 + 1 ≡ m = omega arith in
    let e : F (pos y) m 1 ≡ pos (days_of_months n) = rw (year, month) at (first_days n) in
    omega (arith, signed_arith, e, day (pos y) m d 1 least (omega arith))

-- jiff counts like that
pub epoch_day_is : (y m d : ℕ) (date : Date) → 1970 ≤ y → date.year ≡ pos y → date.month ≡ m → date.day ≡ d → epoch_day date ≡ pos (day_number y m d)
unfolding first
epoch_day_is y m d date low year month day =
    let first_days = counted _ days_from_civil-day days_from_civil-next_month days_from_civil-next_year first_is in
    rw (year, month, day) (number_from _ days_from_civil-day first_days y m d low (omega (arith, date.month_in)) (omega (arith, date.month_in)) (omega (arith, date.day_in)))

-- only a date from 1970 on has such a number
pub year_from_number : (date : Date) (n : ℕ) → epoch_day date ≡ pos n → pos 1970 ≤ℤ date.year
unfolding first
year_from_number date n e =
    by_lt_z date.year (pos 1970)
    (λ lt. absurd (omega (arith, signed_arith, e, first_is, epoch_day-lt date first (inl lt))))
    (λ le. le)

-- jiff's number of a weekday is that of the definition
pub weekday_is : (date : Date) (n : ℕ) → epoch_day date ≡ pos n → weekday_number_of date ≡ weekday_of n
unfolding weekday_of jiff_on_literals
weekday_is date n e = rw e refl

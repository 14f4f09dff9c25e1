use Rattle.std.proofs.Common.{arith, pos, w8, w16}
use Rattle.std.proofs.lemmas.Int.{to_z-of_z, fits_signed_from_abs}
use Rattle.mds_calendar.proofs.Numbers.{month_bounds}
use Rattle.mds_calendar.proofs.Days.{digits_of_date, year_fits}
use Rattle.mds_calendar.proofs.day.Day.digits.Goals as goal

pub returns : goal.returns
returns c =
    let date = c.date-date.result in
    let e = digits_of_date date c.args.self c.date-date.ensures in
    let year = to_z-of_z w16 date.year (fits_signed_from_abs w16 date.year (year_fits date.year date.year_in)) in
    let long = month_bounds date.year date.month in
    let month = to_z-of_z w8 (pos date.month) (fits_signed_from_abs w8 (pos date.month) (omega (arith, date.month_in))) in
    let day = to_z-of_z w8 (pos date.day) (fits_signed_from_abs w8 (pos date.day) (omega (arith, date.day_in, long))) in
    rw (c.write_pair-4.ensures, c.write_pair-3.ensures, c.write_pair-2.ensures, c.write_pair.ensures, c.unsigned_abs-year.ensures.value, c.year.ensures, c.month.ensures, c.day.ensures, year, month, day) e

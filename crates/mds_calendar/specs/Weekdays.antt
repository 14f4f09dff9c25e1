-- The days of the week. ISO 8601 counts them from Monday.
use Rattle.std.specs.Prelude.{ℕ}
use Rattle.mds_calendar.specs.declared.weekday.Weekday.{Weekday}
use Rattle.mds_calendar.specs.declared.weekday.Weekday.TheVariants.{Monday, Tuesday, Wednesday, Thursday, Friday, Saturday, Sunday}

-- how many days after Monday
abbrev pub monday_zero : Weekday → ℕ
monday_zero Monday = 0
monday_zero Tuesday = 1
monday_zero Wednesday = 2
monday_zero Thursday = 3
monday_zero Friday = 4
monday_zero Saturday = 5
monday_zero Sunday = 6

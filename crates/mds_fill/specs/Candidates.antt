-- The days whose values may replace those of another (profile). Days are given by their numbers.
use Rattle.std.specs.Prelude.{◌≡◌, ◌⊎◌, ◌+◌, ◌*◌, ◌<◌, ◌≤◌, ℕ}
use Rattle.mds_calendar.specs.Calendar.{weekday_of}

-- weekdays are counted from 0 for Monday
abbrev pub IsSunday : ℕ → Type 0
IsSunday day = weekday_of day ≡ 6

-- The day at a position, from 0 to 3, among the candidates of a day, nearest first. Those of a holiday are the four
-- Sundays before it. Those of any other day are the same weekday in the four weeks before, without holidays.
abbrev pub IsCandidate : (ℕ → Type 0) → ℕ → ℕ → ℕ → Type 0
IsCandidate IsHoliday day place candidate =
    (place < 4)
    × ((IsHoliday day × IsSunday candidate × (candidate + 7 * place < day) × (day ≤ candidate + 7 * place + 7))
    ⊎ ((IsHoliday day → ⊥) × (IsHoliday candidate → ⊥) × (candidate + 7 * place + 7 ≡ day)))

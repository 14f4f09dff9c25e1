-- The length of an interval, in minutes. MDFF Specification, the 200 record: IntervalLength, 5, 15 or 30. By this
-- project's profile `05` is read as well.
use Rattle.std.specs.Prelude.{ℕ, ◌/◌, Bool, ◌||◌, ◌==◌, if◌then◌else◌, List, codes, bytes_eq, Option, Some, None}

-- 5, 15 or 30
abbrev pub is_length : ℕ → Bool
is_length minutes = (minutes == 5) || (minutes == 15) || (minutes == 30)

-- the length that a text denotes
abbrev pub length_of : List ℕ → Option ℕ
length_of text =
    if bytes_eq text (codes "5") || bytes_eq text (codes "05") then Some 5
    else (if bytes_eq text (codes "15") then Some 15
    else (if bytes_eq text (codes "30") then Some 30 else None))

-- how many intervals of this length a day has
abbrev pub count_of : ℕ → ℕ
count_of minutes = 1440 / minutes

-- Lists of public holidays (profile): a CSV text with a head row and a row for each day. The rows and their fields
-- are those that the library csv reads: `records`, after a byte order mark.
use Rattle.std.specs.Prelude.{◌≡◌, ◌≢◌, ◌<◌, ◌⊎◌, ℕ, ◌+◌, List, [], ◌∷◌, length, map, codes, slice_get, position, is_none, Option, Some, None, option_and_then}
use Rattle.csv.specs.Reading.{default_config, records, strip_bom}
use Rattle.mds_calendar.specs.Calendar.{day_of}
use Rattle.mds_requests.specs.declared.holidays.HolidaysFault.{HolidaysFault}
use Rattle.mds_requests.specs.declared.holidays.HolidaysFault.TheVariants.{BadHolidays, Memory}

-- the rows of a text, each as the list of its fields
abbrev pub rows_of : List ℕ → List (List (List ℕ))
rows_of text = records default_config (strip_bom text)

-- the only field of a row
abbrev pub only_field : List (List ℕ) → Option (List ℕ)
only_field [] = None
only_field (field ∷ []) = Some field
only_field (field ∷ next ∷ rest) = None

-- the day in the only field of a row
abbrev pub day_in : List (List ℕ) → Option ℕ
day_in row = option_and_then day_of (only_field row)

-- the head row
abbrev pub head_row : List (List ℕ)
head_row = codes "date" ∷ []

-- the head row, and then a row for each of these days
abbrev pub IsListOf : List (List (List ℕ)) → List ℕ → Type 0
IsListOf rows days = (others : List (List (List ℕ))) × (rows ≡ head_row ∷ others) × (map day_in others ≡ map Some days)

-- The first row that differs from a list has this number, from 1. It is row 1 if that isn't the head row or doesn't
-- exist. Else it is the first of the others that says no day.
abbrev pub DiffersFirst : List (List (List ℕ)) → ℕ → Type 0
DiffersFirst rows number =
    ((number ≡ 1) × (slice_get rows 0 ≢ Some head_row))
    ⊎ ((others : List (List (List ℕ))) × (rows ≡ head_row ∷ others) × (place : ℕ)
    × (position (λ row. is_none (day_in row)) others ≡ Some place) × (number ≡ 2 + place))

-- why a text is refused; memory is needed only if it isn't empty
abbrev pub IsRefusal : List ℕ → HolidaysFault → Type 0
IsRefusal text (BadHolidays number) = DiffersFirst (rows_of text) number
IsRefusal text Memory = 0 < length text

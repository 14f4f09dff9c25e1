-- The register of readings (profile): a CSV text with a head row, and a row for each interval of each day. A row shows what is
-- current of its interval: a reading of the day's current length, with the update under which it came.
use Rattle.std.specs.Prelude.{◌≡◌, ◌⊎◌, ◌-◌, ◌*◌, ◌/◌, ◌%◌, ℕ, suc, zero, List, [], ◌∷◌, ◌++◌, codes, decimal, drop, take, Some}
use Rattle.std.specs.List.{All}
use Rattle.csv.specs.Writing.{default_writer, row_text}
use Rattle.mds_calendar.specs.Calendar.{day_of, moment_of}
use Rattle.mds_calendar.specs.Length.{count_of}
use Rattle.mds_names.specs.declared.stream.Stream.{Stream}
use Rattle.mds_quantity.specs.Unit.{unit_text}
use Rattle.mds_quantity.specs.declared.unit.Unit.{Unit as MeasureUnit}
use Rattle.mds_marks.specs.Quality.{quality_text, two_digits}
use Rattle.mds_marks.specs.Reading.{ReadingValue, value_text}
use Rattle.mds_marks.specs.Reason.{code_text}
use Rattle.mds_world.specs.Current.{HasNoVersion, IsFormOf, no_reading}
use Rattle.mds_world.specs.World.{IsCurrent, IsKnownDay, World}
use Rattle.mds_keeper.specs.Books.{BookValue, IsDay}
use Rattle.mds_registers.specs.Registers.{IsRegister}

-- the head row
abbrev pub readings_head : List (List ℕ)
readings_head =
    codes "nmi" ∷ codes "suffix" ∷ codes "start" ∷ codes "minutes" ∷ codes "unit" ∷ codes "quality" ∷ codes "code"
    ∷ codes "text" ∷ codes "value" ∷ codes "update" ∷ []

-- the head row as it is written
abbrev pub readings_head_text : List ℕ
readings_head_text = row_text default_writer readings_head

-- The moment of a date after this many minutes of the day, such as `2024-01-01T00:30`: ISO 8601, extended format, local time
-- without a zone. The date is given as CCYYMMDD.
abbrev pub start_text : (date : List ℕ) → (minutes : ℕ) → List ℕ
start_text date minutes =
    take 4 date ++ codes "-" ++ take 2 (drop 4 date) ++ codes "-" ++ drop 6 date ++ codes "T"
    ++ two_digits (minutes / 60) ++ codes ":" ++ two_digits (minutes % 60)

-- The fields of a row. It starts when the intervals before it have ended. An absent code is empty, and so is an absent value.
abbrev pub reading_fields : Stream → (date : List ℕ) → (length : ℕ) → MeasureUnit → (interval : ℕ) → ReadingValue
    → (update : List ℕ) → List (List ℕ)
reading_fields stream date length unit interval reading update =
    stream.nmi ∷ stream.suffix ∷ start_text date ((interval - 1) * length) ∷ decimal length ∷ unit_text unit
    ∷ quality_text reading.mark.quality ∷ code_text reading.mark.reason.code ∷ reading.mark.reason.text
    ∷ value_text reading.value ∷ update ∷ []

-- the row of an interval
abbrev pub reading_row : Stream → (date : List ℕ) → (length : ℕ) → MeasureUnit → (interval : ℕ) → ReadingValue
    → (update : List ℕ) → List ℕ
reading_row stream date length unit interval reading update =
    row_text default_writer (reading_fields stream date length unit interval reading update)

-- What is current of an interval of a length: its reading, with the text of its update. Without a version that is bare N, and no
-- update.
abbrev pub IsShown : World → Stream → (day length interval : ℕ) → ReadingValue → (update : List ℕ) → Type 0
IsShown w stream day length interval reading text =
    ((update : ℕ) × IsCurrent w stream day length interval update reading × (moment_of text ≡ Some update))
    ⊎ (HasNoVersion w stream day length interval × (reading ≡ no_reading) × (text ≡ []))

-- the rows of the intervals from 1 to n, in order
abbrev pub AreIntervalRows : World → Stream → (day : ℕ) → (date : List ℕ) → (length : ℕ) → MeasureUnit → (n : ℕ) → List ℕ → Type 0
AreIntervalRows w stream day date length unit zero text = text ≡ []
AreIntervalRows w stream day date length unit (suc n) text =
    (before : List ℕ) × (reading : ReadingValue) × (update : List ℕ)
    × AreIntervalRows w stream day date length unit n before × IsShown w stream day length (suc n) reading update
    × (text ≡ before ++ reading_row stream date length unit (suc n) reading update)

-- The rows of a known day: one for each interval of its current length. The date is the one text that reads as the day.
abbrev pub IsDayText : World → Stream → (day : ℕ) → List ℕ → Type 0
IsDayText w stream day text =
    (date : List ℕ) × (length : ℕ) × (unit : MeasureUnit) × (day_of date ≡ Some day) × IsFormOf w stream day length unit
    × AreIntervalRows w stream day date length unit (count_of length) text

-- the rows of several days, in turn
abbrev pub AreDayTexts : World → Stream → (days : List ℕ) → List ℕ → Type 0
AreDayTexts w stream [] text = text ≡ []
AreDayTexts w stream (day ∷ days) text =
    (one rest : List ℕ) × IsDayText w stream day one × AreDayTexts w stream days rest × (text ≡ one ++ rest)

-- The register of a stream's readings on these days.
abbrev pub IsReadingsText : World → Stream → (days : List ℕ) → List ℕ → Type 0
IsReadingsText w stream days text = IsRegister readings_head (AreDayTexts w stream days) text

-- each book is one of a known day of the stream
abbrev pub AreKnownDays : World → Stream → List BookValue → Type 0
AreKnownDays w stream books =
    All (λ book. (book.stream ≡ stream) × IsDay w book × IsKnownDay w stream book.day) books

-- The registers agree with the queries of one stream and one day (profile).
use Rattle.std.specs.Prelude.{◌≡◌, ◌≢◌, ◌≤◌, ℕ, zero, suc, List, [], ◌++◌, Option, Some, slice_get}
use Rattle.std.specs.declared.alloc.Global.{Global}
use Rattle.std.specs.declared.vec.Vec.{Vec}
use Rattle.mds_quantity.specs.declared.unit.Unit.{Unit as MeasureUnit}
use Rattle.mds_calendar.specs.Calendar.{day_of}
use Rattle.mds_calendar.specs.Length.{count_of}
use Rattle.mds_names.specs.declared.stream.Stream.{Stream}
use Rattle.mds_marks.specs.Reading.{ReadingValue}
use Rattle.mds_statements.specs.declared.selected.SelectedDay.{SelectedDay}
use Rattle.mds_world.specs.World.{IsLawful, World}
use Rattle.mds_registers.specs.Readings.{reading_row}
use Rattle.mds_registers.specs.Registers.{gaps_head_text}
use Rattle.mds_registers.specs.Stretches.{IsGap}
use Rattle.mds_registers.specs.declared.stretches.Gap.{Gap}
use Rattle.mds_ranges.specs.Selections.{IsSelectedDay}
use Rattle.mds_messages.specs.declared.answer.Answer.TheVariants as told
use Rattle.mds_messages.specs.declared.answer.DayAnswer.{DayAnswer}
use Rattle.mds_service.specs.Machine.{TellsDay}
use Rattle.mds_service.specs.RangeAnswers.{IsAsked, TellsGaps, TellsMissing, TellsReadings}

-- In the gaps of all streams, the rows of a stream that is asked for are those of its own register. If it has a gap, it has rows.
abbrev pub MissingShowsGaps : Type 0
MissingShowsGaps =
    (w : World) (first last : ℕ) (since : Option ℕ) (stream : Stream) (missing gaps : Vec ℕ Global)
    → TellsMissing w first last since (told.Missing missing) → TellsGaps w stream first last (told.Gaps gaps)
    → IsAsked w since stream
    → (before rows behind : List ℕ) × (missing.items ≡ gaps_head_text ++ (before ++ rows ++ behind))
    × (gaps.items ≡ gaps_head_text ++ rows)
    × ((day : ℕ) (gap : Gap) → first ≤ day → day ≤ last → IsGap w stream day gap → rows ≢ [])

-- the rows of the first n of a day's readings, in order
abbrev pub AreRowsOf : Stream → (date : List ℕ) → (length : ℕ) → MeasureUnit → List ReadingValue → (n : ℕ) → List ℕ → Type 0
AreRowsOf stream date length unit readings zero text = text ≡ []
AreRowsOf stream date length unit readings (suc n) text =
    (before : List ℕ) × (reading : ReadingValue) × (update : List ℕ) × AreRowsOf stream date length unit readings n before
    × (slice_get readings n ≡ Some reading) × (text ≡ before ++ reading_row stream date length unit (suc n) reading update)

-- a text has the rows of a day with these readings
abbrev pub HasDayOf : Stream → (day length : ℕ) → MeasureUnit → List ReadingValue → List ℕ → Type 0
HasDayOf stream day length unit readings text =
    (before rows behind : List ℕ) × (text ≡ before ++ rows ++ behind)
    × (date : List ℕ) × (day_of date ≡ Some day) × AreRowsOf stream date length unit readings (count_of length) rows

-- In the register of readings, the rows of a day have the readings that the query of the day shows, in order.
abbrev pub ReadingsShowDays : Type 0
ReadingsShowDays =
    (w : World) (stream : Stream) (first last day : ℕ) (readings : Vec ℕ Global) (answer : DayAnswer) → IsLawful w
    → TellsReadings w stream first last (told.Readings readings) → first ≤ day → day ≤ last
    → TellsDay w stream day (told.Day answer)
    → HasDayOf stream day answer.length answer.unit answer.readings.items readings.items

-- And they have those that an export of the day has.
abbrev pub ReadingsShowExports : Type 0
ReadingsShowExports =
    (w : World) (stream : Stream) (first last : ℕ) (readings : Vec ℕ Global) (selected : SelectedDay) → IsLawful w
    → TellsReadings w stream first last (told.Readings readings) → first ≤ selected.date → selected.date ≤ last
    → IsSelectedDay w stream selected
    → HasDayOf stream selected.date selected.length selected.unit selected.readings readings.items

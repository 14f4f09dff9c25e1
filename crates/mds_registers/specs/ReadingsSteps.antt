-- The parts of a row of readings. No public contract cites it.
use Rattle.std.specs.Prelude.{◌≡◌, ℕ, true, List, ◌++◌, codes, decimal}
use Rattle.std.specs.Char.{is_ascii_digit}
use Rattle.std.specs.List.{list_all}
use Rattle.mds_names.specs.declared.stream.Stream.{Stream}
use Rattle.mds_quantity.specs.Unit.{unit_text}
use Rattle.mds_quantity.specs.declared.unit.Unit.{Unit as MeasureUnit}
use Rattle.mds_marks.specs.Quality.{quality_text}
use Rattle.mds_marks.specs.Reading.{ReadingValue, value_text}
use Rattle.mds_marks.specs.Reason.{code_text}
use Rattle.mds_marks.specs.declared.mark.Mark.{Mark}
use Rattle.mds_registers.specs.FieldsSteps.{closed}
use Rattle.mds_registers.specs.declared.readings.DayTexts.{DayTexts}

-- the texts that the rows of a day share are those of a stream, a length and a unit
pub record AreTextsOf (day : DayTexts) (stream : Stream) (unit : MeasureUnit) : Type 0 where
  pub front : day.front.now ≡ closed stream.nmi ++ closed stream.suffix
  pub date : list_all is_ascii_digit day.date ≡ true
  pub middle : day.middle.now ≡ codes "," ++ closed (decimal day.length) ++ closed (unit_text unit)

-- a row that starts here, up to its quality
abbrev pub row_front : DayTexts → (start : List ℕ) → List ℕ
row_front day start = day.front.now ++ start ++ day.middle.now

-- the fields of a mark
abbrev pub mark_fields : Mark → List ℕ
mark_fields mark = closed (quality_text mark.quality) ++ closed (code_text mark.reason.code) ++ closed mark.reason.text

-- the row, with its end
abbrev pub row_of : DayTexts → (start : List ℕ) → ReadingValue → (update : List ℕ) → List ℕ
row_of day start reading update =
    row_front day start ++ mark_fields reading.mark ++ closed (value_text reading.value) ++ update ++ codes "\n"

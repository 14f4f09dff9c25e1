-- The reading of an interval, from its mark and its value field (MDFF Specification, the 300 and 400 records).
-- By this project's profile an interval under N has no value, even if the field has a number.
use Rattle.std.specs.Prelude.{◌==◌, if◌then◌else◌, ℤ, Option, None}
use Rattle.mds_marks.specs.Quality.{null}
use Rattle.mds_marks.specs.Reading.{ReadingValue}
use Rattle.mds_marks.specs.declared.mark.Mark.{Mark}

-- the reading of a mark and a value field
abbrev pub reading_by : Mark → Option ℤ → ReadingValue
reading_by mark value = record { mark = mark; value = if mark.quality.flag == null then None else value }

-- The line of each row. MDFF Specification, the tables of the 100, 200, 300, 400 and 900 records of NEM12, each
-- field of them. By this project's profile a null value is written as `0`, and the last field of a 300 is empty. By
-- the profile, too, the moment of a 100 has 12 digits if its seconds are 00, and lines end with CR LF.
use Rattle.std.specs.Prelude.{◌≡◌, ℕ, ◌%◌, ◌==◌, if◌then◌else◌, List, [], ◌∷◌, ◌++◌, length, map, codes, decimal, pos, Option, Some, None, option_map, unwrap_or}
use Rattle.mds_quantity.specs.Quantity.{written}
use Rattle.mds_quantity.specs.Unit.{unit_text}
use Rattle.mds_quantity.specs.declared.unit.Unit.{Unit as MeasureUnit}
use Rattle.mds_calendar.specs.Calendar.{date_time_of, day_of, moment_of}
use Rattle.mds_names.specs.declared.stream.Stream.{Stream}
use Rattle.mds_marks.specs.Quality.{quality_text}
use Rattle.mds_marks.specs.Reading.{ReadingValue}
use Rattle.mds_marks.specs.Reason.{code_text}
use Rattle.mds_marks.specs.declared.mark.Mark.{Mark}
use Rattle.mds_terms.specs.BorrowedTexts.{text_of}
use Rattle.mds_terms.specs.Details.{DetailsValue}
use Rattle.mds_terms.specs.Parts.{joined, optional}
use Rattle.mds_lines.specs.Lines.{carriage_return, line_feed}
use Rattle.mds_export.specs.declared.row.Row.{Row}
use Rattle.mds_export.specs.declared.row.Row.TheVariants as row

-- the content of a row, in terms
pub data RowValue : Type 0 where
  -- 100: when the file was made, by whom and for whom
  HeaderRow : (moment : ℕ) → (sender receiver : List ℕ) → RowValue
  -- 200: the stream of the days after it, the unit of their values and the length of their intervals
  DetailsRow : Stream → DetailsValue → MeasureUnit → (minutes : ℕ) → RowValue
  -- 300: a day's readings, whose values it has, the one mark of all intervals, or none if runs follow, and the
  -- update
  DayRow : (date : ℕ) → List ReadingValue → Option Mark → (update : ℕ) → RowValue
  -- 400: the mark of intervals from the first to the last
  RunRow : (first last : ℕ) → Mark → RowValue
  -- 900
  EndRow : RowValue

abbrev pub row_value : Row → RowValue
row_value (row.Header r) = HeaderRow r.moment (text_of r.sender) (text_of r.receiver)
row_value (row.Details r) = DetailsRow r.stream r.details.now r.unit r.length
row_value (row.Day r) = DayRow r.date r.readings.now (option_map (λ mark. mark.now) r.mark) r.update
row_value (row.Run r) = RunRow r.first r.last r.mark.now
row_value row.End = EndRow

-- the text of the moment of a 100
abbrev pub IsHeaderMoment : ℕ → List ℕ → Type 0
IsHeaderMoment moment text =
    (date_time_of text ≡ Some moment) × (length text ≡ (if moment % 60 == 0 then 12 else 14))

-- the value field of a reading
abbrev pub value_field : ReadingValue → List ℕ
value_field reading = written (unwrap_or reading.value (pos 0))

-- the fields of a mark: its quality, the code of its reason and the text of its reason
abbrev pub mark_fields : Mark → List (List ℕ)
mark_fields mark = quality_text mark.quality ∷ code_text mark.reason.code ∷ mark.reason.text ∷ []

-- those of a 300: quality V with an empty reason if runs follow
abbrev pub own_fields : Option Mark → List (List ℕ)
own_fields None = codes "V" ∷ [] ∷ [] ∷ []
own_fields (Some mark) = mark_fields mark

-- the fields of a row, from the record indicator on; days and moments as the texts that read as them
abbrev pub AreFields : RowValue → List (List ℕ) → Type 0
AreFields (HeaderRow moment sender receiver) fields = (made : List ℕ) × IsHeaderMoment moment made
    × (fields ≡ codes "100" ∷ codes "NEM12" ∷ made ∷ sender ∷ receiver ∷ [])
AreFields (DetailsRow stream details unit minutes) fields = (next : List ℕ) × (optional day_of next ≡ Some details.next)
    × (fields ≡ codes "200" ∷ stream.nmi ∷ details.configuration ∷ details.register ∷ stream.suffix ∷ details.datastream
    ∷ details.meter ∷ unit_text unit ∷ decimal minutes ∷ next ∷ [])
AreFields (DayRow date readings mark update) fields = (day updated : List ℕ) × (day_of day ≡ Some date)
    × (moment_of updated ≡ Some update)
    × (fields ≡ codes "300" ∷ day ∷ map value_field readings ++ (own_fields mark ++ updated ∷ [] ∷ []))
AreFields (RunRow first last mark) fields = fields ≡ codes "400" ∷ decimal first ∷ decimal last ∷ mark_fields mark
AreFields EndRow fields = fields ≡ codes "900" ∷ []

-- the line of fields: the fields joined by commas, CR and LF
abbrev pub line_of : List (List ℕ) → List ℕ
line_of fields = joined fields ++ carriage_return ∷ line_feed ∷ []

-- the line of a row
abbrev pub IsRowText : RowValue → List ℕ → Type 0
IsRowText row text = (fields : List (List ℕ)) × AreFields row fields × (text ≡ line_of fields)

-- What the line of a row states, by the definitions for reading the lines of a file. MDFF Specification, the
-- tables of the 100, 200, 300, 400 and 900 records.
use Rattle.std.specs.Prelude.{◌≡◌, ◌≢◌, ℕ, ◌+◌, ◌^◌, ◌<◌, ◌≤◌, IsTrue, List, [], ◌∷◌, ◌++◌, length, map, pos, Option, Some, None, IfSome, Ok, unwrap_or}
use Rattle.std.specs.List.{All}
use Rattle.mds_quantity.specs.Unit.{unit_of}
use Rattle.mds_calendar.specs.Calendar.{date_time_of, day_of, moment_of}
use Rattle.mds_calendar.specs.Length.{is_length, length_of}
use Rattle.mds_names.specs.Names.{is_name, nmi_of, suffix_of}
use Rattle.mds_marks.specs.Mark.{is_mark, mark_of}
use Rattle.mds_marks.specs.Quality.{variable}
use Rattle.mds_marks.specs.Reading.{is_lawful}
use Rattle.mds_marks.specs.declared.mark.Mark.{Mark}
use Rattle.mds_terms.specs.Details.{is_details}
use Rattle.mds_terms.specs.Parts.{optional}
use Rattle.mds_terms.specs.Printable.{is_printable}
use Rattle.mds_lines.specs.Kinds.{kind_of}
use Rattle.mds_lines.specs.Lines.{carriage_return, field, line_feed, longest_line}
use Rattle.mds_lines.specs.declared.line.Kind.{Kind}
use Rattle.mds_lines.specs.declared.line.Kind.TheVariants as kind
use Rattle.mds_records.specs.FieldFaults.{field_fault}
use Rattle.mds_records.specs.Layouts.{interval_number_of}
use Rattle.mds_records.specs.Records.{quantity_in, values_of}
use Rattle.mds_records.specs.declared.header_name.HeaderName.TheVariants.{Nem12}
use Rattle.mds_export.specs.Rows.{RowValue, HeaderRow, DetailsRow, DayRow, RunRow, EndRow}

-- the kind of record of a row
abbrev pub row_kind : RowValue → Kind
row_kind (HeaderRow moment sender receiver) = kind.Header
row_kind (DetailsRow stream details unit minutes) = kind.NmiDataDetails
row_kind (DayRow date readings mark update) = kind.IntervalData
row_kind (RunRow first last mark) = kind.IntervalEvent
row_kind EndRow = kind.EndOfData

-- the parts are lawful terms
abbrev pub IsLawful : RowValue → Type 0
IsLawful (HeaderRow moment sender receiver) = IsTrue (is_printable sender) × IsTrue (is_printable receiver)
IsLawful (DetailsRow stream details unit minutes) = IsTrue (is_name 10 stream.nmi)
    × IsTrue (is_name 2 stream.suffix) × IsTrue (is_details details) × IsTrue (is_length minutes)
IsLawful (DayRow date readings mark update) =
    All (λ reading. IsTrue (is_lawful reading)) readings × IfSome mark (λ mark. IsTrue (is_mark mark))
IsLawful (RunRow first last mark) = IsTrue (is_mark mark)
IsLawful EndRow = Unit {0}

-- A 300 has no more values than a day has intervals of five minutes. The intervals of a 400 have at most four
-- digits, and its quality isn't V.
abbrev pub IsInBounds : RowValue → Type 0
IsInBounds (DayRow date readings mark update) = length readings ≤ 288
IsInBounds (RunRow first last mark) = (first < 10 ^ 4) × (last < 10 ^ 4) × (mark.quality.flag ≢ variable)
IsInBounds row = Unit {0}

-- the mark in a 300: variable quality without a reason if runs follow
abbrev pub variable_mark : Mark
variable_mark = record { quality = record { flag = variable; method = 0 }; reason = record { code = None; text = [] } }

abbrev pub own_mark : Option Mark → Mark
own_mark mark = unwrap_or mark variable_mark

-- the fields of a line state the parts of the row
abbrev pub Says : RowValue → List ℕ → Type 0
Says (HeaderRow moment sender receiver) line =
    (date_time_of (field line 3) ≡ Some moment) × (field line 4 ≡ sender) × (field line 5 ≡ receiver)
Says (DetailsRow stream details unit minutes) line =
    (nmi_of (field line 2) ≡ Some stream.nmi) × (field line 3 ≡ details.configuration)
    × (field line 4 ≡ details.register) × (suffix_of (field line 5) ≡ Some stream.suffix)
    × (field line 6 ≡ details.datastream) × (field line 7 ≡ details.meter) × (unit_of (field line 8) ≡ Some unit)
    × (length_of (field line 9) ≡ Some minutes) × (optional day_of (field line 10) ≡ Some details.next)
Says (DayRow date readings mark update) line = let n = length readings in
    (day_of (field line 2) ≡ Some date)
    × (map quantity_in (values_of n line) ≡ map (λ reading. Some (unwrap_or reading.value (pos 0))) readings)
    × (mark_of (field line (n + 3)) (field line (n + 4)) (field line (n + 5)) ≡ Some (own_mark mark))
    × (optional moment_of (field line (n + 6)) ≡ Some (Some update))
Says (RunRow first last mark) line =
    (interval_number_of (field line 2) ≡ Some first) × (interval_number_of (field line 3) ≡ Some last)
    × (mark_of (field line 4) (field line 5) (field line 6) ≡ Some mark)
Says EndRow line = Unit {0}

-- a 300 is read with the count of its values, the other kinds with any
abbrev pub IsCount : RowValue → ℕ → Type 0
IsCount (DayRow date readings mark update) n = n ≡ length readings
IsCount row n = Unit {0}

-- the line is one of the row's kind without a fault, and states the row
pub record ReadsAs (row : RowValue) (line : List ℕ) : Type 0 where
  pub kind_is : kind_of line ≡ Ok (row_kind row)
  pub faultless : (n : ℕ) → IsCount row n → field_fault Nem12 (row_kind row) n line ≡ None
  pub says : Says row line
  -- its piece, which ends with CR, isn't cut, and isn't too long
  pub apart : All (λ byte. byte ≢ line_feed) line
  pub short : length line < longest_line

-- a row's text is such a line, CR and LF
abbrev pub ReadsBack : RowValue → List ℕ → Type 0
ReadsBack row text =
    (line : List ℕ) × (text ≡ line ++ carriage_return ∷ line_feed ∷ []) × ReadsAs row line

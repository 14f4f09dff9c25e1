-- What `check` prints of a well formed file (profile): a line for each 300 or 250 record, in order. A line has the NMI and the
-- suffix first, and the unit last. In between a 300 has the date, the number of intervals with a value, and the sum of these
-- values. A 250 has the moments of the previous and the current read, and the quantity.
use Rattle.std.specs.Prelude.{◌≡◌, ℕ, List, [], ◌∷◌, ◌++◌, length, codes, decimal, Some, None, ◌-◌, slice_index_or, Option}
use Rattle.mds_quantity.specs.Quantity.{written}
use Rattle.mds_quantity.specs.Unit.{unit_text}
use Rattle.mds_calendar.specs.Calendar.{day_of, moment_of}
use Rattle.mds_names.specs.declared.stream.Stream.{Stream}
use Rattle.mds_records.specs.declared.file.FileFault.{FileFault}
use Rattle.mds_records.specs.declared.file.FileKind.{FileKind}
use Rattle.mds_records.specs.declared.file.FileKind.TheVariants.{Nem12, Nem13}
use Rattle.mds_days.specs.Readings.{amounts, total}
use Rattle.mds_nem12.specs.Answers.{fault_so_far}
use Rattle.mds_nem12.specs.Faults.{fault_of, nem12}
use Rattle.mds_nem13.specs.Faults.{fault_of as fault_of_13, nem13}
use Rattle.mds_nem13.specs.Statements.{statements_of as statements_of_13}
use Rattle.mds_statements.specs.Statements.{DayStatement, PeriodContent, Statement}
use Rattle.mds_nem12.specs.Statements.{statements_of}
use Rattle.mds_statements.specs.Statements.Statement.{DayOf, PeriodOf}

-- the line of a day, by the text of its date
abbrev pub day_line : DayStatement → List ℕ → List ℕ
day_line day date =
    day.stream.nmi ++ codes " " ++ day.stream.suffix ++ codes " " ++ date ++ codes " "
    ++ decimal (length (amounts day.readings)) ++ codes " " ++ written (total (amounts day.readings)) ++ codes " "
    ++ unit_text day.unit ++ codes "\n"

-- the line of an accumulation, by the texts of its two moments, of its quantity and of its unit
abbrev pub period_line : Stream → List ℕ → List ℕ → List ℕ → List ℕ → List ℕ
period_line stream start finish quantity unit =
    stream.nmi ++ codes " " ++ stream.suffix ++ codes " " ++ start ++ codes " " ++ finish ++ codes " " ++ quantity
    ++ codes " " ++ unit ++ codes "\n"

-- a field of the 250 of an accumulation, if it is one of the kept fields 3 to 21
abbrev pub kept_field : ℕ → PeriodContent → List ℕ
kept_field number content = slice_index_or content.fields (number - 3) []

-- the lines of all days and accumulations of statements; a day has one text of its date, and a moment has one
abbrev pub IsReport : List Statement → List ℕ → Type 0
IsReport [] text = text ≡ []
IsReport (DayOf day ∷ statements) text =
    (date : List ℕ) × (rest : List ℕ) × (day_of date ≡ Some day.date) × (text ≡ day_line day date ++ rest)
    × IsReport statements rest
IsReport (PeriodOf period ∷ statements) text =
    (start : List ℕ) × (finish : List ℕ) × (rest : List ℕ)
    × (moment_of start ≡ Some period.key.start) × (moment_of finish ≡ Some period.key.finish)
    × (text ≡ period_line period.key.stream start finish (kept_field 19 period.content) (kept_field 20 period.content) ++ rest)
    × IsReport statements rest
IsReport (statement ∷ statements) text = IsReport statements text

-- the text of this kind of file is well formed, and this is what is printed of it
abbrev pub IsReportOf : FileKind → List ℕ → List ℕ → Type 0
IsReportOf Nem12 text report = (fault_of text ≡ None) × IsReport (statements_of text) report
IsReportOf Nem13 text report = (fault_of_13 text ≡ None) × IsReport (statements_of_13 text) report

-- this is the fault of this kind of file
abbrev pub IsFaultOf : FileKind → List ℕ → FileFault → Type 0
IsFaultOf Nem12 text fault = fault_of text ≡ Some fault
IsFaultOf Nem13 text fault = fault_of_13 text ≡ Some fault

-- the fault of this kind of file by its text so far
abbrev pub fault_by_now : FileKind → List ℕ → Option FileFault
fault_by_now Nem12 text = fault_so_far nem12 text
fault_by_now Nem13 text = fault_so_far nem13 text

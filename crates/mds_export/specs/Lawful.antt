-- What the types of a header and of a selection's parts guarantee, for laws over values.
use Rattle.std.specs.Prelude.{IsTrue, List}
use Rattle.std.specs.List.{All}
use Rattle.mds_calendar.specs.Length.{is_length}
use Rattle.mds_names.specs.Names.{is_name}
use Rattle.mds_marks.specs.Reading.{is_lawful}
use Rattle.mds_terms.specs.Details.{is_details}
use Rattle.mds_terms.specs.Printable.{is_printable}
use Rattle.mds_statements.specs.Statements.{HeaderValue}
use Rattle.mds_statements.specs.Selected.{days_of}
use Rattle.mds_statements.specs.declared.selected.SelectedDay.{SelectedDay}
use Rattle.mds_statements.specs.declared.selected.SelectedStream.{SelectedStream}

-- the names of a stream
abbrev pub IsLawfulStream : SelectedStream → Type 0
IsLawfulStream selected =
    IsTrue (is_name 10 selected.stream.nmi) × IsTrue (is_name 2 selected.stream.suffix)

-- the length of a day's intervals, the texts of its details, and its readings
abbrev pub IsLawfulDay : SelectedDay → Type 0
IsLawfulDay day =
    IsTrue (is_length day.length) × IsTrue (is_details day.details)
    × All (λ reading. IsTrue (is_lawful reading)) day.readings

pub record AreLawful (header : HeaderValue) (streams : List SelectedStream) : Type 0 where
  pub sender : IsTrue (is_printable header.sender)
  pub receiver : IsTrue (is_printable header.receiver)
  pub named : All IsLawfulStream streams
  pub readings : All IsLawfulDay (days_of streams)

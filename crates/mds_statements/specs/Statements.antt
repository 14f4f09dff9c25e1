-- What a file of either kind states, in terms alone. MDFF Specification, the 100, 200, 300, 400 and 500 records of NEM12 and
-- the 250 and 550 records of NEM13.
use Rattle.std.specs.Prelude.{ℕ, List, [], ◌∷◌}
use Rattle.std.specs.List.{flat_map}
use Rattle.mds_quantity.specs.declared.unit.Unit.{Unit as MeasureUnit}
use Rattle.mds_names.specs.declared.stream.Stream.{Stream}
use Rattle.mds_marks.specs.Reading.{ReadingValue}
use Rattle.mds_terms.specs.Details.{DetailsValue}
use Rattle.mds_terms.specs.Event.{EventValue}
pub use Rattle.mds_statements.specs.Contents.{PeriodContent}
use Rattle.mds_statements.specs.declared.periods.PeriodKey.{PeriodKey}

-- 100: when the file was made, by whom and for whom
pub record HeaderValue : Type 0 where
  pub moment : ℕ
  pub sender : List ℕ
  pub receiver : List ℕ

-- a 200: its line, the stream with the length of its intervals and its unit, the details, and the header's moment
pub record StreamStatement : Type 0 where
  pub line : ℕ
  pub stream : Stream
  pub length : ℕ
  pub unit : MeasureUnit
  pub moment : ℕ
  pub details : DetailsValue

-- the details that a 300 states for its day: those of its governing 200, with the header's moment
pub record DetailsStatement : Type 0 where
  pub stream : Stream
  pub date : ℕ
  pub moment : ℕ
  pub details : DetailsValue

-- A 300 with its 400 records: its line, the head (stream, day, length and unit), the update, and the reading of each interval in
-- order. The readings are the day's versions.
pub record DayStatement : Type 0 where
  pub line : ℕ
  pub stream : Stream
  pub date : ℕ
  pub length : ℕ
  pub unit : MeasureUnit
  pub update : ℕ
  pub readings : List ReadingValue

-- a 250 with its 550 records
pub record PeriodStatement : Type 0 where
  pub line : ℕ
  pub key : PeriodKey
  pub content : PeriodContent

pub data Statement : Type 0 where
  HeaderOf : HeaderValue → Statement
  StreamOf : StreamStatement → Statement
  DetailsOf : DetailsStatement → Statement
  DayOf : DayStatement → Statement
  EventOf : EventValue → Statement
  PeriodOf : PeriodStatement → Statement

-- the day in a statement, if it has one
abbrev pub days_in : Statement → List DayStatement
days_in (DayOf day) = day ∷ []
days_in statement = []

-- the days of statements, in the same order
abbrev pub days_of : List Statement → List DayStatement
days_of statements = flat_map days_in statements

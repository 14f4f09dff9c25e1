-- What the store knows, as facts (profile). A day is its number, a moment and an update are its seconds, and the length of intervals
-- is its minutes.
use Rattle.std.specs.Prelude.{ℕ, List, Option}
use Rattle.mds_quantity.specs.declared.unit.Unit.{Unit as MeasureUnit}
use Rattle.mds_names.specs.declared.stream.Stream.{Stream}
use Rattle.mds_marks.specs.Reading.{ReadingValue}
use Rattle.mds_terms.specs.Details.{DetailsValue}
use Rattle.mds_terms.specs.Event.{EventValue}
pub use Rattle.mds_statements.specs.Statements.{PeriodContent}
use Rattle.mds_statements.specs.declared.periods.PeriodKey.{PeriodKey}
use Rattle.mds_world.specs.declared.facts.Detail.{Detail}
use Rattle.mds_world.specs.declared.facts.Head.{Head}
use Rattle.mds_world.specs.declared.facts.Key.{Key}

-- the key of a version: an interval of a day of a stream, of a length, under an update
abbrev pub key_at : Stream → ℕ → ℕ → ℕ → ℕ → Key
key_at stream day length interval update =
    record { stream = stream; day = day; length = length; interval = interval; update = update }

-- the head of a day of a stream under an update, with the length of its intervals there and its unit
abbrev pub head_at : Stream → ℕ → ℕ → ℕ → MeasureUnit → Head
head_at stream day update length unit =
    record { stream = stream; day = day; update = update; length = length; unit = unit }

-- the details of a day of a stream, under the moment of a header
abbrev pub detail_at : Stream → ℕ → ℕ → DetailsValue → Detail
detail_at stream day moment details = record { stream = stream; day = day; moment = moment; details = details }

-- a substitution job: its whole content
pub record JobContent : Type 0 where
  pub stream : Stream
  pub day : ℕ
  pub first : ℕ
  pub last : ℕ
  pub length : ℕ
  pub unit : MeasureUnit
  pub method : ℕ
  pub flag : ℕ
  pub code : Option ℕ
  pub text : List ℕ
  pub update : ℕ

-- A fact that a World may hold: the head of a day under an update, a version of a reading, or a meter's details. Or it is an event, an
-- accumulation, a holiday, or a substitution job with the count of readings that it made.
pub data Fact : Type 0 where
  HeadIs : Head → Fact
  VersionIs : Key → ReadingValue → Fact
  DetailIs : Detail → Fact
  EventIs : EventValue → Fact
  PeriodIs : PeriodKey → PeriodContent → Fact
  HolidayIs : (day : ℕ) → Fact
  JobIs : (id : List ℕ) → JobContent → (count : ℕ) → Fact

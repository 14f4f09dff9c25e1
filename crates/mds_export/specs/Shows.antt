-- What the text of a selection states, by the definitions for reading files: exactly what was selected.
use Rattle.std.specs.Prelude.{◌≡◌, ℕ, if◌then◌else◌, List, [], ◌∷◌, ◌++◌, map, None}
use Rattle.std.specs.List.{flat_map}
use Rattle.mds_statements.specs.Statements.{DayStatement, DetailsStatement, HeaderValue, Statement, StreamStatement}
use Rattle.mds_statements.specs.Statements.Statement.{HeaderOf, StreamOf, DetailsOf, DayOf, PeriodOf}
use Rattle.mds_nem12.specs.Faults.{fault_of}
use Rattle.mds_nem12.specs.Statements.{statements_of}
use Rattle.mds_export.specs.Placed.{PlacedDay, is_governed, placed_days}
use Rattle.mds_export.specs.Exports.{IsExport}
use Rattle.mds_statements.specs.declared.selected.SelectedStream.{SelectedStream}

-- a statement without the number of its line
abbrev pub unlined : Statement → Statement
unlined (StreamOf stream) = StreamOf (record stream { line = 0 })
unlined (DayOf day) = DayOf (record day { line = 0 })
unlined (PeriodOf period) = PeriodOf (record period { line = 0 })
unlined statement = statement

-- the head of a day, and a version of each interval under the day's update
abbrev pub day_selected : PlacedDay → DayStatement
day_selected placed = record {
  line = 0;
  stream = placed.selected.stream;
  date = placed.day.date;
  length = placed.day.length;
  unit = placed.day.unit;
  update = placed.day.update;
  readings = placed.day.readings;
}

-- its stream, with its form and its details under the moment of the header
abbrev pub stream_selected : ℕ → PlacedDay → StreamStatement
stream_selected moment placed = record {
  line = 0;
  stream = placed.selected.stream;
  length = placed.day.length;
  unit = placed.day.unit;
  moment = moment;
  details = placed.day.details;
}

-- the details of the day
abbrev pub details_selected : ℕ → PlacedDay → DetailsStatement
details_selected moment placed = record {
  stream = placed.selected.stream;
  date = placed.day.date;
  moment = moment;
  details = placed.day.details;
}

-- what a day states: its details and itself, and before them its stream if the length, the unit or the details are new
abbrev pub day_stated : ℕ → PlacedDay → List Statement
day_stated moment placed =
    (if is_governed placed.before placed.day then [] else StreamOf (stream_selected moment placed) ∷ [])
    ++ DetailsOf (details_selected moment placed) ∷ DayOf (day_selected placed) ∷ []

-- what a selection states under a header
abbrev pub selection_stated : HeaderValue → List SelectedStream → List Statement
selection_stated header streams = HeaderOf header ∷ flat_map (day_stated header.moment) (placed_days streams)

-- a text of the selection that has no fault, and states what was selected and nothing else
pub record Shows (header : HeaderValue) (streams : List SelectedStream) (text : List ℕ) : Type 0 where
  pub form : IsExport header streams text
  pub faultless : fault_of text ≡ None
  pub stated : map unlined (statements_of text) ≡ selection_stated header streams

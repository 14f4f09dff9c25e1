-- What a delivery holds, as the statements of a file in the order of its lines.
use Rattle.std.specs.Prelude.{ℕ, List, ◌∷◌, map}
use Rattle.std.specs.List.{flat_map}
use Rattle.mds_statements.specs.Statements.{DayStatement, DetailsStatement, HeaderValue, Statement, StreamStatement}
use Rattle.mds_statements.specs.Statements.Statement.{HeaderOf, StreamOf, DetailsOf, DayOf, EventOf}
use Rattle.mds_statements.specs.declared.blocks.Block.{Block}
use Rattle.mds_statements.specs.declared.blocks.DeliveredDay.{DeliveredDay}
use Rattle.mds_statements.specs.declared.delivery.Delivery.{Delivery}
use Rattle.mds_statements.specs.declared.blocks.Header.{Header}

abbrev pub header_value : Header → HeaderValue
header_value header = record { moment = header.moment; sender = header.sender; receiver = header.receiver }

-- a day of a block
abbrev pub day_in : Block → DeliveredDay → DayStatement
day_in block day = record {
  line = day.line;
  stream = block.stream;
  date = day.date;
  length = block.length;
  unit = block.unit;
  update = day.update;
  readings = day.readings;
}

-- the stream of a block, in a file whose header has this moment
abbrev pub stream_of : ℕ → Block → StreamStatement
stream_of moment block = record {
  line = block.line;
  stream = block.stream;
  length = block.length;
  unit = block.unit;
  moment = moment;
  details = block.details;
}

-- the details of a day of that block
abbrev pub details_of : ℕ → Block → DeliveredDay → DetailsStatement
details_of moment block day = record {
  stream = block.stream;
  date = day.date;
  moment = moment;
  details = block.details;
}

-- its details, the day and its events
abbrev pub day_statements : ℕ → Block → DeliveredDay → List Statement
day_statements moment block day =
    DetailsOf (details_of moment block day) ∷ DayOf (day_in block day) ∷ map EventOf day.events.items

-- that block and its days
abbrev pub block_statements : ℕ → Block → List Statement
block_statements moment block =
    StreamOf (stream_of moment block) ∷ flat_map (day_statements moment block) block.days.items

abbrev pub delivery_statements : Delivery → List Statement
delivery_statements delivery =
    HeaderOf (header_value delivery.header) ∷ flat_map (block_statements delivery.header.moment) delivery.blocks.items

-- The facts of a file's statements. MDFF Specification, the 200, 300, 400 and 500 records of NEM12 and the 250 and 550
-- records of NEM13.
use Rattle.std.specs.Prelude.{ℕ, ◌+◌, List, [], ◌∷◌}
use Rattle.std.specs.List.{flat_map}
use Rattle.std.specs.FinSet as set
use Rattle.mds_quantity.specs.declared.unit.Unit.{Unit as MeasureUnit}
use Rattle.mds_names.specs.declared.stream.Stream.{Stream}
use Rattle.mds_marks.specs.Reading.{ReadingValue}
use Rattle.mds_statements.specs.Statements.{Statement}
use Rattle.mds_statements.specs.Statements.Statement.{DetailsOf, DayOf, EventOf, PeriodOf}
use Rattle.mds_world.specs.Facts.{Fact, detail_at, head_at, key_at}
use Rattle.mds_world.specs.Facts.Fact.{HeadIs, VersionIs, DetailIs, EventIs, PeriodIs}
use Rattle.mds_world.specs.World.{World}

-- the versions of a day's readings, in order, of a length and under one update; the first is of this interval
abbrev pub versions_from : Stream → ℕ → ℕ → ℕ → ℕ → List ReadingValue → List Fact
versions_from stream day length update interval [] = []
versions_from stream day length update interval (reading ∷ rest) =
    VersionIs (key_at stream day length interval update) reading
    ∷ versions_from stream day length update (interval + 1) rest

-- the head of a day under an update, and a version of each interval from 1 on under it
abbrev pub day_facts : Stream → ℕ → ℕ → MeasureUnit → ℕ → List ReadingValue → List Fact
day_facts stream day length unit update readings =
    HeadIs (head_at stream day update length unit)
    ∷ versions_from stream day length update 1 readings

-- The facts that a statement adds. A header and a 200 add none: their content is in the facts of the records that they govern.
abbrev pub facts_of : Statement → List Fact
facts_of (DetailsOf of_day) =
    DetailIs (detail_at of_day.stream of_day.date of_day.moment of_day.details) ∷ []
facts_of (DayOf day) = day_facts day.stream day.date day.length day.unit day.update day.readings
facts_of (EventOf event) = EventIs event ∷ []
facts_of (PeriodOf period) = PeriodIs period.key period.content ∷ []
facts_of statement = []

-- all that the statements state
abbrev pub stated : List Statement → World
stated statements = set.from_list (flat_map facts_of statements)

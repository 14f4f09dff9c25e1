-- Rows that the store writes: the cells of lawful terms.
use Rattle.std.specs.Prelude.{◌≡◌, ◌≤◌, ◌<◌, ◌+◌, ◌*◌, ◌^◌, ℕ, IfSome, IsTrue}
use Rattle.sqlite_value.specs.Order.{Row, column}
use Rattle.sqlite.specs.declared.types.Value.TheVariants.{Text}
use Rattle.mds_calendar.specs.Calendar.{day_seconds, last_day}
use Rattle.mds_calendar.specs.Length.{is_length}
use Rattle.mds_names.specs.Names.{is_name}
use Rattle.mds_names.specs.declared.stream.Stream.{Stream}
use Rattle.mds_marks.specs.Reading.{ReadingValue, is_lawful}
use Rattle.mds_terms.specs.Event.{EventValue, is_event}
use Rattle.mds_world.specs.declared.facts.Head.{Head}
use Rattle.mds_world.specs.declared.facts.Key.{Key}
use Rattle.mds_tables.specs.Cells.{event_cells, head_cells, version_cells}

-- the number of a possible day
abbrev pub IsDay : ℕ → Type 0
IsDay day = day ≤ last_day

-- the seconds of a possible moment
abbrev pub IsMoment : ℕ → Type 0
IsMoment moment = moment < (last_day + 1) * day_seconds

-- the two names are well formed
pub record IsStream (s : Stream) : Type 0 where
  pub nmi : IsTrue (is_name 10 s.nmi)
  pub suffix : IsTrue (is_name 2 s.suffix)

-- a row begins with a stream
pub record BeginsWith (row : Row) (s : Stream) : Type 0 where
  pub lawful : IsStream s
  pub nmi : column row 0 ≡ Text s.nmi
  pub suffix : column row 1 ≡ Text s.suffix

-- a row is that of a head in schemas 1 to 3
pub record IsRowOfHead (row : Row) (head : Head) : Type 0 where
  pub cells : row ≡ head_cells head
  pub stream : IsStream head.stream
  pub day : IsDay head.day
  pub length : IsTrue (is_length head.length)

-- a row is that of a version
pub record IsRowOfVersion (row : Row) (key : Key) (reading : ReadingValue) : Type 0 where
  pub cells : row ≡ version_cells key reading
  pub stream : IsStream key.stream
  pub day : IsDay key.day
  pub interval : key.interval < 2 ^ 16
  pub update : IsMoment key.update
  pub lawful : IsTrue (is_lawful reading)

-- a row is that of an event
pub record IsRowOfEvent (row : Row) (event : EventValue) : Type 0 where
  pub cells : row ≡ event_cells event
  pub lawful : IsTrue (is_event event)
  pub day : IsDay event.day
  pub moment : IfSome event.moment IsMoment

-- The World: what the store holds, as one set of facts, and the rules that it keeps (profile). Two equal facts are one,
-- and their order of arrival isn't known.
use Rattle.std.specs.Prelude.{◌≡◌, ◌⊎◌, ◌≤◌, ℕ, List}
use Rattle.std.specs.FinSet as set
use Rattle.std.specs.FinSet.{FinSet}
use Rattle.mds_calendar.specs.Length.{count_of}
use Rattle.mds_names.specs.declared.stream.Stream.{Stream}
use Rattle.mds_quantity.specs.declared.unit.Unit.{Unit as MeasureUnit}
use Rattle.mds_marks.specs.Reading.{ReadingValue}
use Rattle.mds_terms.specs.Event.{EventValue}
use Rattle.mds_world.specs.declared.facts.Detail.{Detail}
use Rattle.mds_world.specs.declared.facts.Head.{Head}
use Rattle.mds_world.specs.declared.facts.Key.{Key}
use Rattle.mds_world.specs.Facts.{Fact, JobContent, PeriodContent, head_at, key_at}
use Rattle.mds_statements.specs.declared.periods.PeriodKey.{PeriodKey}
use Rattle.mds_world.specs.Facts.Fact.{HeadIs, VersionIs, DetailIs, EventIs, PeriodIs, HolidayIs, JobIs}
use Rattle.mds_world.specs.FactOrder.{fact_cmp}
use Rattle.mds_world.specs.Sets.{◌∈◌}

abbrev pub World : Type 0
World = FinSet fact_cmp

-- the union of two Worlds
abbrev pub union : World → World → World
union a b = set.union a b

-- One length for each stream, day and update, and one unit for each stream and day. One reading for each stream, day,
-- length, interval and update. One content for each period.
pub record Agrees (w : World) : Type 0 where
  pub one_length : (a b : Head) → HeadIs a ∈ w → HeadIs b ∈ w → a.stream ≡ b.stream → a.day ≡ b.day → a.update ≡ b.update
      → a.length ≡ b.length
  pub one_unit : (a b : Head) → HeadIs a ∈ w → HeadIs b ∈ w → a.stream ≡ b.stream → a.day ≡ b.day → a.unit ≡ b.unit
  pub one_reading : (key : Key) (a b : ReadingValue) → VersionIs key a ∈ w → VersionIs key b ∈ w → a ≡ b
  pub one_content : (key : PeriodKey) (a b : PeriodContent) → PeriodIs key a ∈ w → PeriodIs key b ∈ w → a ≡ b

-- the head of a version: of its day, its update and its length, with a unit
abbrev pub head_over : Key → MeasureUnit → Head
head_over key unit = head_at key.stream key.day key.update key.length unit

-- the key of a version of an interval under a head
abbrev pub key_under : Head → ℕ → Key
key_under head interval = key_at head.stream head.day head.length interval head.update

-- a version has its head, and its interval is one of that head's
abbrev pub HasHead : World → Key → Type 0
HasHead w key =
    (unit : MeasureUnit) × (HeadIs (head_over key unit) ∈ w) × (1 ≤ key.interval) × (key.interval ≤ count_of key.length)

-- a head has a version under it
abbrev pub HasVersion : World → Head → Type 0
HasVersion w head = (interval : ℕ) × (reading : ReadingValue) × (VersionIs (key_under head interval) reading ∈ w)

-- A known day has a head.
abbrev pub IsKnownDay : World → Stream → ℕ → Type 0
IsKnownDay w stream day = (head : Head) × (HeadIs head ∈ w) × (head.stream ≡ stream) × (head.day ≡ day)

-- What each fact needs exists: a version has its head, a head has a version, and details are of a known day.
pub record IsClosed (w : World) : Type 0 where
  pub headed : (key : Key) (reading : ReadingValue) → VersionIs key reading ∈ w → HasHead w key
  pub versioned : (head : Head) → HeadIs head ∈ w → HasVersion w head
  pub detailed : (detail : Detail) → DetailIs detail ∈ w → IsKnownDay w detail.stream detail.day

-- It agrees, a job has one content and one count, and it is closed.
pub record IsLawful (w : World) : Type 0 where
  pub agrees : Agrees w
  pub one_job : (id : List ℕ) (a b : JobContent) (m n : ℕ) → JobIs id a m ∈ w → JobIs id b n ∈ w → (a ≡ b) × (m ≡ n)
  pub closed : IsClosed w

-- The current reading of an interval of a length: that of the version with the greatest update.
pub record IsCurrent (w : World) (stream : Stream) (day length interval update : ℕ) (reading : ReadingValue) : Type 0 where
  pub held : VersionIs (key_at stream day length interval update) reading ∈ w
  pub greatest : (other : ℕ) (of_other : ReadingValue)
      → VersionIs (key_at stream day length interval other) of_other ∈ w
      → other ≤ update

-- the fact is a head, or a version, of a day
abbrev pub IsOn : Stream → ℕ → Fact → Type 0
IsOn stream day (HeadIs head) = (head.stream ≡ stream) × (head.day ≡ day)
IsOn stream day (VersionIs key reading) = (key.stream ≡ stream) × (key.day ≡ day)
IsOn stream day (DetailIs detail) = ⊥
IsOn stream day (EventIs event) = ⊥
IsOn stream day (PeriodIs key content) = ⊥
IsOn stream day (HolidayIs date) = ⊥
IsOn stream day (JobIs id content count) = ⊥

-- A known stream has a head or a period.
abbrev pub IsKnownStream : World → Stream → Type 0
IsKnownStream w stream =
    ((head : Head) × (HeadIs head ∈ w) × (head.stream ≡ stream))
    ⊎ ((key : PeriodKey) × (content : PeriodContent) × (PeriodIs key content ∈ w) × (key.stream ≡ stream))

-- the event is on a day of a stream
abbrev pub IsEventOf : Stream → ℕ → EventValue → Type 0
IsEventOf stream day event =
    (event.nmi ≡ stream.nmi) × (event.suffix ≡ stream.suffix) × (event.day ≡ day)

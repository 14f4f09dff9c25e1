-- What is current: of an interval, of a day, and of a stream (profile). It is always the greatest of some facts, whenever they
-- came. A meter that is exchanged on a day has its details from that day on.
use Rattle.std.specs.Prelude.{◌≡◌, ◌↔◌, ◌⊎◌, ◌≤◌, ℕ, [], None, true}
use Rattle.std.specs.Ordering.{is_le, nat_cmp, ordering_then}
use Rattle.std.specs.declared.cmp.Ordering.{Ordering}
use Rattle.mds_quantity.specs.declared.unit.Unit.{Unit as MeasureUnit}
use Rattle.mds_names.specs.declared.stream.Stream.{Stream}
use Rattle.mds_marks.specs.Mark.{bare_null}
use Rattle.mds_marks.specs.Reading.{ReadingValue}
use Rattle.mds_terms.specs.Details.{DetailsValue, details_cmp}
use Rattle.mds_world.specs.declared.facts.Detail.{Detail}
use Rattle.mds_world.specs.declared.facts.Head.{Head}
use Rattle.mds_world.specs.Facts.{key_at}
use Rattle.mds_world.specs.Facts.Fact.{DetailIs, HeadIs, VersionIs}
use Rattle.mds_world.specs.Sets.{◌∈◌}
use Rattle.mds_world.specs.World.{IsCurrent, IsKnownDay, World}

-- an interval of a length has no version
abbrev pub HasNoVersion : World → Stream → ℕ → ℕ → ℕ → Type 0
HasNoVersion w stream day length interval =
    (update : ℕ) (reading : ReadingValue) → VersionIs (key_at stream day length interval update) reading ∈ w → ⊥

-- bare N, without a value
abbrev pub no_reading : ReadingValue
no_reading = record { mark = bare_null; value = None }

-- The reading of an interval of a length: the current one, or bare N if there is no version.
abbrev pub IsReading : World → Stream → ℕ → ℕ → ℕ → ReadingValue → Type 0
IsReading w stream day length interval reading =
    ((update : ℕ) × IsCurrent w stream day length interval update reading)
    ⊎ (HasNoVersion w stream day length interval × (reading ≡ no_reading))

-- the head is of the day
abbrev pub IsHeadOf : World → Stream → ℕ → Head → Type 0
IsHeadOf w stream day head = (HeadIs head ∈ w) × (head.stream ≡ stream) × (head.day ≡ day)

-- The head of a day with the greatest update, which decides its form.
pub record IsForm (w : World) (stream : Stream) (day : ℕ) (head : Head) : Type 0 where
  pub held : IsHeadOf w stream day head
  pub greatest : (other : Head) → IsHeadOf w stream day other → other.update ≤ head.update

-- The current form of a known day: the length of its intervals, and its unit.
abbrev pub IsFormOf : World → Stream → ℕ → ℕ → MeasureUnit → Type 0
IsFormOf w stream day length unit =
    (head : Head) × IsForm w stream day head × (head.length ≡ length) × (head.unit ≡ unit)

-- The reading that a day shows of an interval: that of the day's current length, or bare N if the day isn't known.
abbrev pub IsDayReading : World → Stream → ℕ → ℕ → ReadingValue → Type 0
IsDayReading w stream day interval reading =
    ((length : ℕ) × (unit : MeasureUnit) × IsFormOf w stream day length unit × IsReading w stream day length interval reading)
    ⊎ ((IsKnownDay w stream day → ⊥) × (reading ≡ no_reading))

-- The greatest update among a day's current readings of a length.
pub record IsLatest (w : World) (stream : Stream) (day length update : ℕ) : Type 0 where
  pub held : (interval : ℕ) × (reading : ReadingValue) × IsCurrent w stream day length interval update reading
  pub greatest : (interval other : ℕ) (reading : ReadingValue) → IsCurrent w stream day length interval other reading
      → other ≤ update

-- by the day, then the moment, and then the details field by field
abbrev pub detail_cmp : Detail → Detail → Ordering
detail_cmp a b =
    ordering_then (nat_cmp a.day b.day) (ordering_then (nat_cmp a.moment b.moment) (details_cmp a.details b.details))

-- Details of a stream that apply on a day: they are of that day, or of an earlier one.
abbrev pub IsUpto : World → Stream → ℕ → Detail → Type 0
IsUpto w stream day detail = (DetailIs detail ∈ w) × (detail.stream ≡ stream) × (detail.day ≤ day)

-- The greatest of those: of the nearest day that has some, under the latest header, and among those the greatest field by field.
pub record IsGreatestDetail (w : World) (stream : Stream) (day : ℕ) (detail : Detail) : Type 0 where
  pub held : IsUpto w stream day detail
  pub greatest : (other : Detail) → IsUpto w stream day other → is_le (detail_cmp other detail) ≡ true

-- five empty fields
abbrev pub no_details : DetailsValue
no_details = record { configuration = []; register = []; datastream = []; meter = []; next = None }

-- The current details of a day: those of its greatest pair of moment and details. If it has none, they are those of the nearest
-- earlier day of the stream that has some, or else five empty fields. The day needn't be known.
abbrev pub IsCurrentDetails : World → Stream → ℕ → DetailsValue → Type 0
IsCurrentDetails w stream day details =
    ((detail : Detail) × IsGreatestDetail w stream day detail × (details ≡ detail.details))
    ⊎ (((other : Detail) → IsUpto w stream day other → ⊥) × (details ≡ no_details))

-- The last known day of a stream.
pub record IsLastDay (w : World) (stream : Stream) (day : ℕ) : Type 0 where
  pub known : IsKnownDay w stream day
  pub last : (other : ℕ) → IsKnownDay w stream other → other ≤ day

-- A stream's details: the current ones of its last known day, or five empty fields if it has no known day.
abbrev pub IsStreamDetails : World → Stream → DetailsValue → Type 0
IsStreamDetails w stream details =
    ((day : ℕ) × IsLastDay w stream day × IsCurrentDetails w stream day details)
    ⊎ (((day : ℕ) → IsKnownDay w stream day → ⊥) × (details ≡ no_details))

-- Details that come back to a World, each of a day and current there. Their moments may be any.
abbrev pub DetailsComeFrom : World → World → Type 0
DetailsComeFrom w back = (detail : Detail) → DetailIs detail ∈ back → IsCurrentDetails w detail.stream detail.day detail.details

-- a day has the same current details in both
abbrev pub HasSameDetails : World → World → Stream → ℕ → Type 0
HasSameDetails a b stream day =
    (details : DetailsValue) → IsCurrentDetails a stream day details ↔ IsCurrentDetails b stream day details

-- Details of this day alone, under the latest header, and the greatest among those.
pub record IsGreatestOfDay (w : World) (stream : Stream) (day : ℕ) (detail : Detail) : Type 0 where
  pub held : IsUpto w stream day detail
  pub here : detail.day ≡ day
  pub greatest : (other : Detail) → IsUpto w stream day other → other.day ≡ day
      → is_le (ordering_then (nat_cmp other.moment detail.moment) (details_cmp other.details detail.details)) ≡ true

-- Current details in two steps: the nearest day that has some, and of that day the greatest pair.
abbrev pub IsNearestDetails : World → Stream → ℕ → DetailsValue → Type 0
IsNearestDetails w stream day details =
    ((of : ℕ) × (detail : Detail) × (of ≤ day) × IsGreatestOfDay w stream of detail
    × ((other : Detail) → IsUpto w stream day other → other.day ≤ of) × (details ≡ detail.details))
    ⊎ (((other : Detail) → IsUpto w stream day other → ⊥) × (details ≡ no_details))

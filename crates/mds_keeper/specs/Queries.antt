-- The answers to queries of a World, as lists.
use Rattle.std.specs.Prelude.{◌≡◌, ◌↔◌, ◌<◌, ◌≤◌, ℕ, List, Option, Some, None, map}
use Rattle.std.specs.Cmp.Lexicographic.{slice_cmp}
use Rattle.std.specs.List.{All, AllPairs}
use Rattle.std.specs.Ordering.{nat_cmp, ordering_then}
use Rattle.std.specs.declared.cmp.Ordering.{Ordering}
use Rattle.std.specs.declared.cmp.Ordering.TheVariants.{Less}
use Rattle.mds_names.specs.declared.stream.Stream.{Stream}
use Rattle.mds_terms.specs.Details.{DetailsValue}
use Rattle.mds_terms.specs.Event.{EventValue}
use Rattle.mds_jobs.specs.Jobs.{content_of}
use Rattle.mds_jobs.specs.declared.job.Job.{Job}
pub use Rattle.mds_statements.specs.Selected.{stream_cmp}
use Rattle.mds_statements.specs.declared.periods.Period.{Period}
use Rattle.mds_world.specs.Facts.{JobContent, PeriodContent}
use Rattle.mds_statements.specs.declared.periods.PeriodKey.{PeriodKey}
use Rattle.mds_world.specs.Facts.Fact.{DetailIs, EventIs, HolidayIs, JobIs, PeriodIs}
use Rattle.mds_world.specs.declared.facts.Detail.{Detail}
use Rattle.mds_world.specs.Current.{IsCurrentDetails, IsLastDay}
use Rattle.mds_world.specs.Lists.{Apart, Member}
use Rattle.mds_world.specs.Sets.{◌∈◌}
use Rattle.mds_world.specs.World.{IsEventOf, IsKnownDay, IsKnownStream, World}
use Rattle.mds_keeper.specs.Books.{BookValue, IsDay}
use Rattle.mds_keeper.specs.Content.{detail_on}
use Rattle.mds_keeper.specs.declared.additions.DetailDays.{DetailDays}

-- The known streams, ascending, each once.
pub record AreKnownStreams (w : World) (streams : List Stream) : Type 0 where
  pub each : (stream : Stream) → Member stream streams ↔ IsKnownStream w stream
  pub ascending : AllPairs (λ a b. stream_cmp a b ≡ Less) streams

-- the last known day of a stream, if it has one
abbrev pub IsLastDayOf : World → Stream → Option ℕ → Type 0
IsLastDayOf w stream (Some day) = IsLastDay w stream day
IsLastDayOf w stream None = (day : ℕ) → IsKnownDay w stream day → ⊥

-- Those of the days for which the World doesn't have these details, ascending, each once.
pub record AreDaysWithout (w : World) (details : DetailDays) (days : List ℕ) : Type 0 where
  pub each : (day : ℕ) → Member day days
      ↔ (Member day details.days.items × (DetailIs (detail_on details day) ∈ w → ⊥))
  pub ascending : AllPairs (λ a b. a < b) days

-- Current details of days in a range, ascending, each day once. Every day with details of its own is included.
pub record AreDetailsBetween (w : World) (stream : Stream) (first last : ℕ) (rows : List (ℕ × DetailsValue)) : Type 0 where
  pub each : (row : ℕ × DetailsValue) → Member row rows
      → (first ≤ row.0) × (row.0 ≤ last) × IsCurrentDetails w stream row.0 row.1
  pub all : (detail : Detail) → DetailIs detail ∈ w → detail.stream ≡ stream → first ≤ detail.day → detail.day ≤ last
      → Member detail.day (map (λ row. row.0) rows)
  pub ascending : AllPairs (λ a b. a.0 < b.0) rows

-- The events of a day, each once.
pub record AreEventsOf (w : World) (stream : Stream) (day : ℕ) (events : List EventValue) : Type 0 where
  pub each : (event : EventValue) → Member event events ↔ ((EventIs event ∈ w) × IsEventOf stream day event)
  pub apart : Apart events

-- The listed holidays, ascending, each once.
pub record AreHolidays (w : World) (days : List ℕ) : Type 0 where
  pub each : (day : ℕ) → Member day days ↔ (HolidayIs day ∈ w)
  pub ascending : AllPairs (λ a b. a < b) days

-- the job with an id, and the count of the readings that it made, if there is one
abbrev pub IsJobOf : World → List ℕ → Option (Job × ℕ) → Type 0
IsJobOf w id (Some kept) = (kept.0.id ≡ id) × (JobIs id (content_of kept.0) kept.1 ∈ w)
IsJobOf w id None = (content : JobContent) (count : ℕ) → JobIs id content count ∈ w → ⊥

-- by the register, the previous read, the current read, and the update
abbrev pub period_cmp : PeriodKey → PeriodKey → Ordering
period_cmp a b =
    ordering_then (slice_cmp nat_cmp a.register b.register)
    (ordering_then (nat_cmp a.start b.start) (ordering_then (nat_cmp a.finish b.finish) (nat_cmp a.update b.update)))

-- The accumulations of a stream, ascending, each once.
pub record ArePeriodsOf (w : World) (stream : Stream) (periods : List Period) : Type 0 where
  pub each : (period : Period) → Member period periods ↔ ((PeriodIs period.key period.content ∈ w) × (period.key.stream ≡ stream))
  pub ascending : AllPairs (λ a b. period_cmp a.key b.key ≡ Less) periods

-- the content of the accumulation with a key, if there is one
abbrev pub IsContentOf : World → PeriodKey → Option PeriodContent → Type 0
IsContentOf w key (Some content) = PeriodIs key content ∈ w
IsContentOf w key None = (content : PeriodContent) → PeriodIs key content ∈ w → ⊥

-- The known days of a stream from `first` to `last`, ascending, each once.
pub record AreDaysOf (w : World) (stream : Stream) (first last : ℕ) (books : List BookValue) : Type 0 where
  pub each : All (λ book. (book.stream ≡ stream) × IsDay w book) books
  pub known : (day : ℕ) → Member day (map (λ book. book.day) books) ↔ ((first ≤ day) × (day ≤ last) × IsKnownDay w stream day)
  pub ascending : AllPairs (λ a b. a.day < b.day) books

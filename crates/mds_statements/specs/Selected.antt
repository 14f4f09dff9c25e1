-- The invariant of a selection (profile). Its streams ascend, and so do the days of each. A day has a reading for each interval
-- of its length. There are so few days that they have fewer lines than a file may have (L10). This holds even if each day is of
-- five minutes, with a run for each interval and a 200 of its own.
use Rattle.std.specs.Prelude.{◌≡◌, ◌<◌, ◌≤◌, ℕ, List, length}
use Rattle.std.specs.Cmp.Lexicographic.{slice_cmp}
use Rattle.std.specs.List.{All, AllPairs, flat_map}
use Rattle.std.specs.Ordering.{nat_cmp, ordering_then}
use Rattle.std.specs.declared.cmp.Ordering.{Ordering}
use Rattle.std.specs.declared.cmp.Ordering.TheVariants.{Less}
use Rattle.mds_calendar.specs.Length.{count_of}
use Rattle.mds_names.specs.declared.stream.Stream.{Stream}
use Rattle.mds_statements.specs.declared.selected.SelectedDay.{SelectedDay}
use Rattle.mds_statements.specs.declared.selected.SelectedStream.{SelectedStream}

-- by the bytes of the NMI, and then of the suffix
abbrev pub stream_cmp : Stream → Stream → Ordering
stream_cmp a b = ordering_then (slice_cmp nat_cmp a.nmi b.nmi) (slice_cmp nat_cmp a.suffix b.suffix)

-- a day has a reading for each interval
abbrev pub IsWhole : SelectedDay → Type 0
IsWhole day = length day.readings ≡ count_of day.length

-- the days of all streams, stream by stream
abbrev pub days_of : List SelectedStream → List SelectedDay
days_of streams = flat_map (λ selected. selected.days.items) streams

-- the most days of a selection
abbrev pub most_days : ℕ
most_days = 3_200

pub record AreOrderly (streams : List SelectedStream) : Type 0 where
  pub ascending : AllPairs (λ a b. stream_cmp a.stream b.stream ≡ Less) streams
  pub dates : All (λ selected. AllPairs (λ a b. a.date < b.date) selected.days.items) streams
  pub whole : All IsWhole (days_of streams)
  pub few : length (days_of streams) ≤ most_days

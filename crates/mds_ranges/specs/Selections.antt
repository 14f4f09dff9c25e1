-- What an export selects (profile): streams of one NMI, each with its known days in a range.
use Rattle.std.specs.Prelude.{◌≡◌, ◌↔◌, ◌<◌, ◌≤◌, ℕ, List, length, map}
use Rattle.std.specs.Cmp.Lexicographic.{slice_cmp}
use Rattle.std.specs.List.{All, AllPairs}
use Rattle.std.specs.Ordering.{nat_cmp}
use Rattle.std.specs.declared.cmp.Ordering.TheVariants.{Less}
use Rattle.mds_calendar.specs.Length.{count_of}
use Rattle.mds_names.specs.declared.stream.Stream.{Stream}
use Rattle.mds_world.specs.Current.{IsCurrentDetails, IsFormOf, IsLatest}
use Rattle.mds_world.specs.Lists.{Apart, Member}
use Rattle.mds_world.specs.World.{IsKnownDay, World}
use Rattle.mds_statements.specs.Selected.{stream_cmp}
use Rattle.mds_statements.specs.declared.selected.SelectedDay.{SelectedDay}
use Rattle.mds_statements.specs.declared.selected.SelectedStream.{SelectedStream}
use Rattle.mds_ranges.specs.Readings.{AreReadings}

-- More than eight distinct suffixes.
abbrev pub HasManySuffixes : List (List ℕ) → Type 0
HasManySuffixes suffixes =
    (distinct : List (List ℕ)) × Apart distinct × ((suffix : List ℕ) → Member suffix distinct → Member suffix suffixes)
    × (8 < length distinct)

-- by their bytes, each once
abbrev pub Ascend : List (List ℕ) → Type 0
Ascend suffixes = AllPairs (λ a b. slice_cmp nat_cmp a b ≡ Less) suffixes

-- The distinct suffixes, ascending by their bytes.
pub record AreDistinct (suffixes distinct : List (List ℕ)) : Type 0 where
  pub each : (suffix : List ℕ) → Member suffix distinct ↔ Member suffix suffixes
  pub ascending : Ascend distinct

-- A known day, with its current length and its unit, its current details, and the greatest update among its current readings.
-- Its readings are those of each interval of that length.
pub record IsSelectedDay (w : World) (stream : Stream) (day : SelectedDay) : Type 0 where
  pub form : IsFormOf w stream day.date day.length day.unit
  pub details : IsCurrentDetails w stream day.date day.details
  pub update : IsLatest w stream day.date day.length day.update
  pub readings : AreReadings w stream day.date (count_of day.length) day.readings

-- The known days of a stream in a range, ascending.
pub record AreSelectedDays (w : World) (stream : Stream) (first last : ℕ) (days : List SelectedDay) : Type 0 where
  pub known : (day : ℕ) → Member day (map (λ d. d.date) days)
      ↔ ((first ≤ day) × (day ≤ last) × IsKnownDay w stream day)
  pub ascending : AllPairs (λ a b. a.date < b.date) days
  pub each : All (IsSelectedDay w stream) days

-- a stream with these days, which may be none
abbrev pub IsSelectedStream : World → ℕ → ℕ → SelectedStream → Type 0
IsSelectedStream w first last selected = AreSelectedDays w selected.stream first last selected.days.items

-- What is selected: the streams of the NMI with one of the suffixes, ascending by their bytes, each once.
pub record IsSelection (w : World) (nmi : List ℕ) (suffixes : List (List ℕ)) (first last : ℕ)
    (streams : List SelectedStream) : Type 0 where
  pub named : (stream : Stream) → Member stream (map (λ selected. selected.stream) streams)
      ↔ ((stream.nmi ≡ nmi) × Member stream.suffix suffixes)
  pub ascending : AllPairs (λ a b. stream_cmp a.stream b.stream ≡ Less) streams
  pub each : All (IsSelectedStream w first last) streams

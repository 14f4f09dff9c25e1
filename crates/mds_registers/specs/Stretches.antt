-- The gaps and the finals of a day (profile). They are the longest runs of neighbouring intervals whose current readings are
-- null, or final under one mark. Intervals are those of the day's current length, and counted from 1.
use Rattle.std.specs.Prelude.{◌≡◌, ◌↔◌, ◌⊎◌, ◌+◌, ◌-◌, ◌<◌, ◌≤◌, ℕ, List}
use Rattle.std.specs.List.{AllPairs}
use Rattle.mds_calendar.specs.Length.{count_of}
use Rattle.mds_quantity.specs.declared.unit.Unit.{Unit as MeasureUnit}
use Rattle.mds_names.specs.declared.stream.Stream.{Stream}
use Rattle.mds_marks.specs.Quality.{final, null}
use Rattle.mds_marks.specs.Reading.{ReadingValue}
use Rattle.mds_marks.specs.declared.mark.Mark.{Mark}
use Rattle.mds_world.specs.Current.{IsDayReading, IsFormOf}
use Rattle.mds_world.specs.Lists.{Member}
use Rattle.mds_world.specs.World.{IsKnownDay, World}
use Rattle.mds_registers.specs.declared.stretches.Final.{Final}
use Rattle.mds_registers.specs.declared.stretches.Gap.{Gap}

-- All intervals from first to last, within 1 to a count, satisfy `IsSuch`, and are no part of a longer run. The interval
-- right before doesn't satisfy it, nor does the one right after.
pub record IsStretch (IsSuch : ℕ → Type 0) (count first last : ℕ) : Type 0 where
  pub from_one : 1 ≤ first
  pub in_order : first ≤ last
  pub within : last ≤ count
  pub all : (i : ℕ) → first ≤ i → i ≤ last → IsSuch i
  pub before : 1 < first → IsSuch (first - 1) → ⊥
  pub behind : last < count → IsSuch (last + 1) → ⊥

-- the flag of an interval's current reading is N
abbrev pub IsNull : World → Stream → ℕ → ℕ → Type 0
IsNull w stream day interval =
    (reading : ReadingValue) × IsDayReading w stream day interval reading × (reading.mark.quality.flag ≡ null)

-- that flag is F, and this mark is the reading's: the method, and the reason's code and text
abbrev pub IsFinalWith : World → Stream → ℕ → Mark → ℕ → Type 0
IsFinalWith w stream day mark interval =
    (reading : ReadingValue) × IsDayReading w stream day interval reading × (reading.mark.quality.flag ≡ final)
    × (reading.mark ≡ mark)

-- the day is known, and has this many intervals of its current length
abbrev pub HasIntervals : World → Stream → ℕ → ℕ → Type 0
HasIntervals w stream day count =
    (length : ℕ) × (unit : MeasureUnit) × IsFormOf w stream day length unit × (count_of length ≡ count)

-- A gap: a stretch of null readings, or 0 to 0 if the day isn't known.
abbrev pub IsGap : World → Stream → ℕ → Gap → Type 0
IsGap w stream day gap =
    ((count : ℕ) × HasIntervals w stream day count × IsStretch (IsNull w stream day) count gap.first gap.last)
    ⊎ ((IsKnownDay w stream day → ⊥) × (gap.first ≡ 0) × (gap.last ≡ 0))

-- A final: a stretch of readings that are final under one mark.
abbrev pub IsFinal : World → Stream → ℕ → Final → Type 0
IsFinal w stream day stretch =
    (count : ℕ) × HasIntervals w stream day count
    × IsStretch (IsFinalWith w stream day stretch.mark) count stretch.first stretch.last

-- The gaps of a day, ascending.
pub record AreGaps (w : World) (stream : Stream) (day : ℕ) (gaps : List Gap) : Type 0 where
  pub each : (gap : Gap) → Member gap gaps ↔ IsGap w stream day gap
  pub ascending : AllPairs (λ a b. a.first < b.first) gaps

-- The finals of a day, ascending.
pub record AreFinals (w : World) (stream : Stream) (day : ℕ) (finals : List Final) : Type 0 where
  pub each : (stretch : Final) → Member stretch finals ↔ IsFinal w stream day stretch
  pub ascending : AllPairs (λ a b. a.first < b.first) finals

-- some interval's current reading is null, or the day isn't known
abbrev pub LacksReading : World → Stream → ℕ → Type 0
LacksReading w stream day =
    ((count interval : ℕ) × HasIntervals w stream day count × (1 ≤ interval) × (interval ≤ count)
    × IsNull w stream day interval)
    ⊎ (IsKnownDay w stream day → ⊥)

-- some interval's current reading is final
abbrev pub HasFinal : World → Stream → ℕ → Type 0
HasFinal w stream day =
    (count interval : ℕ) × (mark : Mark) × HasIntervals w stream day count × (1 ≤ interval) × (interval ≤ count)
    × IsFinalWith w stream day mark interval

-- The steps by which a job's targets are filled in (profile).
use Rattle.std.specs.Prelude.{◌≡◌, ◌+◌, ◌≤◌, ℕ, ℤ, List, Some, length, slice_get}
use Rattle.mds_calendar.specs.Length.{count_of}
use Rattle.mds_marks.specs.Reading.{ReadingValue}
use Rattle.mds_world.specs.Facts.{JobContent}
use Rattle.mds_world.specs.Lists.{Member}
use Rattle.mds_world.specs.World.{World}
use Rattle.mds_keeper.specs.declared.refusal.RefusalCode.{RefusalCode}
use Rattle.mds_keeper.specs.declared.refusal.RefusalCode.TheVariants.{NoLikeDay, NoAnchor}
use Rattle.mds_jobs.specs.Jobs.{flags, methods}
use Rattle.mds_fill.specs.Fills.{IsBookOf, IsLikeValue, IsNearestLike, IsSubstitute, IsValueAfter, IsValueBefore, LacksAnchor, LacksLikeDay}
use Rattle.mds_fill.specs.declared.sources.Source.{Source}
use Rattle.mds_fill.specs.declared.sources.Source.TheVariants.{LikeDay, LikeDays, Line, Zeros}

-- what holds of a job that isn't bad
pub record IsGood (job : JobContent) : Type 0 where
  pub from_one : 1 ≤ job.first
  pub in_order : job.first ≤ job.last
  pub within : job.last ≤ count_of job.length
  pub few : count_of job.length ≤ 288
  pub method : Member job.method methods
  pub flag : Member job.flag flags

-- the source is that of the job's method
abbrev pub IsSource : World → JobContent → Source → Type 0
IsSource w job (LikeDay book) =
    (job.method ≡ 14) × ((day : ℕ) × IsNearestLike w job day × IsBookOf w job.stream day book.now)
IsSource w job LikeDays = job.method ≡ 15
IsSource w job (Line before after) = (job.method ≡ 17) × IsValueBefore w job before × IsValueAfter w job after
IsSource w job Zeros = job.method ≡ 19

-- the rule that a job without a source breaks
abbrev pub IsLack : World → JobContent → RefusalCode → Type 0
IsLack w job NoLikeDay = LacksLikeDay w job
IsLack w job NoAnchor = LacksAnchor w job
IsLack w job _ = ⊥

-- no candidate has a usable value at an interval
abbrev pub HasNoLikeValue : World → JobContent → ℕ → Type 0
HasNoLikeValue w job i = (place : ℕ) (value : ℤ) → IsLikeValue w job place i value → ⊥

-- the readings of the first `count` targets
pub record AreFilled (w : World) (job : JobContent) (count : ℕ) (readings : List ReadingValue) : Type 0 where
  pub many : length readings ≡ count
  pub each : (k : ℕ) (reading : ReadingValue) → slice_get readings k ≡ Some reading
      → IsSubstitute w job (job.first + k) reading

-- How the readings of a day are kept: runs that hold each interval, and millionths for each (profile). Intervals are
-- counted from 1.
use Rattle.std.specs.Prelude.{◌≡◌, ◌≢◌, ◌<◌, ◌≤◌, ◌^◌, ℕ, ◌+◌, ◌-◌, Bool, ◌&&◌, IsTrue, if◌then◌else◌, nat_lt, List, [], ◌∷◌, ◌++◌, get_or, length, map, replicate, ℤ, pos, unsigned_abs, Option, unwrap_or}
use Rattle.std.specs.List.{list_all, zip}
use Rattle.mds_quantity.specs.Quantity.{limit}
use Rattle.mds_marks.specs.Mark.{is_mark}
use Rattle.mds_marks.specs.Reading.{ReadingValue}
use Rattle.mds_marks.specs.ReadingSteps.{is_kept, kept_value}
use Rattle.mds_marks.specs.declared.mark.Mark.{Mark}
use Rattle.mds_runs.specs.declared.cover.Run.{Run}

-- the mark of each interval after this one, in order, from runs that leave none out
abbrev pub marks_in : ℕ → List Run → List Mark
marks_in interval [] = []
marks_in interval (run ∷ runs) = replicate (run.last - interval) run.mark ++ marks_in run.last runs

-- the mark of each interval of a day, paired with its millionths
abbrev pub pairs_kept : List Run → List ℤ → List (Mark × ℤ)
pairs_kept runs millionths = zip (marks_in 0 runs) millionths

-- the reading kept as a mark and millionths
abbrev pub reading_kept : Mark × ℤ → ReadingValue
reading_kept kept = record { mark = kept.0; value = kept_value kept.0.quality.flag kept.1 }

-- the readings kept as runs and the millionths of each interval
abbrev pub readings_kept : List Run → List ℤ → List ReadingValue
readings_kept runs millionths = map reading_kept (pairs_kept runs millionths)

-- the first run has another mark than this one, or there are no runs
abbrev pub IsOther : Mark → List Run → Type 0
IsOther mark [] = Unit {0}
IsOther mark (run ∷ runs) = mark ≢ run.mark

-- runs of the intervals after one, up to an end. Each begins right after the one before it, and has another mark
abbrev pub AreClose : ℕ → List Run → ℕ → Type 0
AreClose interval [] end = interval ≡ end
AreClose interval (run ∷ runs) end =
    (run.first ≡ interval + 1) × (interval < run.last) × IsOther run.mark runs × AreClose run.last runs end

-- a lawful mark, and millionths that go with its flag
abbrev pub is_pair_kept : Mark × ℤ → Bool
is_pair_kept kept = is_mark kept.0 && is_kept kept.0.quality.flag kept.1

-- at most 65,535 millionths, runs that hold each of their intervals, and lawful readings
pub record AreKept (runs : List Run) (millionths : List ℤ) : Type 0 where
  pub few : length millionths < 2 ^ 16
  pub close : AreClose 0 runs (length millionths)
  pub lawful : IsTrue (list_all is_pair_kept (pairs_kept runs millionths))

-- what is kept of a value field: its millionths, or 0 if the field is empty or the mark is null
abbrev pub number_of : Bool → Option ℤ → ℤ
number_of is_null value = if is_null then pos 0 else unwrap_or value (pos 0)

-- it is the value of a quantity
abbrev pub is_small : Bool → Option ℤ → Bool
is_small is_null value = nat_lt (unsigned_abs (number_of is_null value)) limit

-- runs whose last one is extended up to an end
abbrev pub lengthened : ℕ → List Run → List Run
lengthened end [] = []
lengthened end (run ∷ []) = record { first = run.first; last = end; mark = run.mark } ∷ []
lengthened end (run ∷ next ∷ runs) = run ∷ lengthened end (next ∷ runs)

-- the first `place` runs end at an index or before it, and the others after it
pub record EndBefore (runs : List Run) (at place : ℕ) : Type 0 where
  pub within : place ≤ length runs
  pub before : (k : ℕ) (d : Run) → k < place → (get_or runs k d).last ≤ at
  pub after : (k : ℕ) (d : Run) → place ≤ k → k < length runs → at < (get_or runs k d).last

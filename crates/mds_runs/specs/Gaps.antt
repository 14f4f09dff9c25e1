-- The runs of a list of marks with gaps, where a gap is an interval without a mark (profile). Intervals are counted from 1.
use Rattle.std.specs.Prelude.{◌≡◌, ◌<◌, ◌≤◌, ℕ, ◌+◌, Bool, false, true, ◌&&◌, ◌==◌, List, [], ◌∷◌, Option, Some, None, if◌then◌else◌, option_map, length, map, bytes_eq}
use Rattle.std.specs.List.{range_with_len}
use Rattle.mds_marks.specs.declared.mark.Mark.{Mark}
use Rattle.mds_runs.specs.declared.cover.Run.{Run}
use Rattle.mds_runs.specs.Runs.{AreRuns, run_at}

-- both have no code, or both have the same one
abbrev pub same_code : Option ℕ → Option ℕ → Bool
same_code None None = true
same_code None (Some n) = false
same_code (Some m) None = false
same_code (Some m) (Some n) = m == n

-- two marks with equal parts
unfoldable pub same_mark : Mark → Mark → Bool
same_mark a b =
    (a.quality.flag == b.quality.flag) && (a.quality.method == b.quality.method)
    && same_code a.reason.code b.reason.code && bytes_eq a.reason.text b.reason.text

-- a run begins right after an interval, and has this mark
abbrev pub goes_on : ℕ → Mark → Run → Bool
goes_on interval mark run = (run.first == interval + 1) && same_mark mark run.mark

-- an interval with a mark, before runs. The first run takes the interval in if it continues it. Otherwise the interval
-- is a run of its own
abbrev pub joined : ℕ → Mark → List Run → List Run
joined interval mark [] = record { first = interval; last = interval; mark = mark } ∷ []
joined interval mark (run ∷ runs) =
    if goes_on interval mark run
    then record { first = interval; last = run.last; mark = mark } ∷ runs
    else record { first = interval; last = interval; mark = mark } ∷ run ∷ runs

-- the runs of marks and gaps, from an interval on
abbrev pub runs_of : ℕ → List (Option Mark) → List Run
runs_of interval [] = []
runs_of interval (None ∷ marks) = runs_of (interval + 1) marks
runs_of interval (Some mark ∷ marks) = joined interval mark (runs_of (interval + 1) marks)

-- the mark of the run that holds an interval, if any
abbrev pub mark_held : List Run → ℕ → Option Mark
mark_held runs interval = option_map (λ run. run.mark) (run_at runs interval)

-- the marks of all intervals of a day in order, with a gap where no run holds the interval
abbrev pub spread_with_gaps : ℕ → List Run → List (Option Mark)
spread_with_gaps count runs = map (mark_held runs) (range_with_len 1 count)

-- no lawful runs that spread to the same marks and gaps are fewer
abbrev pub IsLeastWithGaps : ℕ → List Run → Type 0
IsLeastWithGaps count runs = (others : List Run) → AreRuns count others
    → spread_with_gaps count others ≡ spread_with_gaps count runs → length runs ≤ length others

-- the mark of a run, or if there is no run, the mark given
abbrev pub over : Option Run → Option Mark → Option Mark
over None mark = mark
over (Some run) mark = Some run.mark

-- one of `count` intervals is held by a run whose mark has a text
abbrev pub LaysText : List Run → ℕ → Type 0
LaysText runs count =
    (interval : ℕ) × (run : Run) × (interval ≤ count) × (run_at runs interval ≡ Some run) × (0 < length run.mark.reason.text)

-- marks and gaps from an interval on, where an interval held by a run has the run's mark, and any other keeps its own
abbrev pub overlaid : List Run → ℕ → List (Option Mark) → List (Option Mark)
overlaid runs interval [] = []
overlaid runs interval (mark ∷ marks) = over (run_at runs interval) mark ∷ overlaid runs (interval + 1) marks

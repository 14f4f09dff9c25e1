-- What private steps over runs and gaps compute (profile). Intervals are counted from 1.
use Rattle.std.specs.Prelude.{ℕ, ◌+◌, ◌-◌, Bool, false, true, not, ◌&&◌, List, [], ◌∷◌, ◌++◌, Option, Some, None, nat_lt, nat_le, if◌then◌else◌, replicate}
use Rattle.mds_marks.specs.declared.mark.Mark.{Mark}
use Rattle.mds_runs.specs.declared.cover.Run.{Run}
use Rattle.mds_runs.specs.Gaps.{goes_on}

-- the marks and gaps after an interval, up to the last of `count` intervals, for runs in ascending order
abbrev pub marks_after : ℕ → ℕ → List Run → List (Option Mark)
marks_after count interval [] = replicate (count - interval) None
marks_after count interval (run ∷ runs) =
    replicate (run.first - 1 - interval) None ++ replicate (run.last + 1 - run.first) (Some run.mark)
    ++ marks_after count run.last runs

-- the run of intervals that have one mark, or nothing for a gap
abbrev pub stretch_of : ℕ → ℕ → Option Mark → List Run
stretch_of first last None = []
stretch_of first last (Some mark) = record { first = first; last = last; mark = mark } ∷ []

-- the first of the runs, if it has begun at an interval
abbrev pub first_begun : List Run → ℕ → Option Run
first_begun [] interval = None
first_begun (run ∷ runs) interval = if nat_le run.first interval then Some run else None

-- the last interval of a run, or 0 if there is no run
abbrev pub end_of : Option Run → ℕ
end_of None = 0
end_of (Some last) = last.last

-- a run begins right after another, with the same mark
abbrev pub touches : Option Run → Run → Bool
touches None run = false
touches (Some last) run = goes_on last.last last.mark run

-- a run is within a day of `count` intervals and begins after the end of another. If it is right after it, its
-- mark differs
abbrev pub follows : ℕ → Option Run → Run → Bool
follows count last run =
    nat_lt (end_of last) run.first && nat_le run.first run.last && nat_le run.last count && not (touches last run)

-- each of the runs may follow the one before it
abbrev pub are_parted : ℕ → Option Run → List Run → Bool
are_parted count last [] = true
are_parted count last (run ∷ runs) = follows count last run && are_parted count (Some run) runs

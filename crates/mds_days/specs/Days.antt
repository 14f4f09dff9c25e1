-- A day as stated by its 300 and its 400 records. MDFF Specification, the 300 and 400 records; that an interval whose
-- quality is neither N nor V has a value is this project's profile.
use Rattle.std.specs.Prelude.{◌≡◌, ℕ, Bool, false, not, ◌&&◌, ◌==◌, List, [], length, All, ℤ, Option, None, is_none}
use Rattle.std.specs.List.{list_any}
use Rattle.mds_marks.specs.BorrowedMarks.{mark_value}
use Rattle.mds_marks.specs.Mark.{bare_null}
use Rattle.mds_marks.specs.Quality.{null, variable}
use Rattle.mds_marks.specs.declared.mark.Mark.{Mark}
use Rattle.mds_records.specs.declared.interval_event.IntervalEventRecord.{IntervalEventRecord}
use Rattle.mds_runs.specs.declared.cover.Run.{Run}
use Rattle.mds_days.specs.Readings.{leaves_gap}
use Rattle.mds_days.specs.RunFaults.{lacks_value}

-- the line of the 300, its day, its update if it states one, its own mark, its values, and the runs of its 400
-- records
pub record DayValue : Type 0 where
  pub line : ℕ
  pub date : ℕ
  pub update : Option ℕ
  pub mark : Mark
  pub values : List (Option ℤ)
  pub runs : List Run

-- no day yet: one without intervals
abbrev pub no_day : DayValue
no_day = record { line = 0; date = 0; update = None; mark = bare_null; values = []; runs = [] }

-- a mark under which an interval has a value: any but N and V
abbrev pub needs_value : Mark → Bool
needs_value mark = not (mark.quality.flag == null) && not (mark.quality.flag == variable)

-- a value is empty only if the 300's quality is N or V
abbrev pub AreValuesOf : Mark → List (Option ℤ) → Type 0
AreValuesOf own values = (needs_value own && list_any (λ value. is_none value) values) ≡ false

-- a run isn't of variable quality, and holds no interval without a value unless it is of quality N
pub record IsRunOf (values : List (Option ℤ)) (run : Run) : Type 0 where
  pub not_variable : (run.mark.quality.flag == variable) ≡ false
  pub valued : (not (run.mark.quality.flag == null) && lacks_value values run.first run.last) ≡ false

-- the day's values go with its own mark and with its runs
pub record IsDay (day : DayValue) : Type 0 where
  pub own : AreValuesOf day.mark day.values
  pub marked : All (IsRunOf day.values) day.runs

-- the day has no gap
abbrev pub IsWhole : DayValue → Type 0
IsWhole day = leaves_gap (length day.values) day.mark day.runs ≡ false

-- the run of a 400
abbrev pub run_value : IntervalEventRecord → Run
run_value r = record { first = r.first; last = r.last; mark = mark_value r.mark }

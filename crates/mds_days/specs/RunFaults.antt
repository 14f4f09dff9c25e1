-- Why a 400 record may be refused as a run of its day. MDFF Specification, the 400 record; the faults and their order are
-- this project's profile.
use Rattle.std.specs.Prelude.{ℕ, ◌+◌, ◌-◌, Bool, not, ◌&&◌, ◌==◌, nat_le, if◌then◌else◌, List, [], ◌∷◌, take, drop, ℤ, Option, Some, None, is_none}
use Rattle.std.specs.List.{list_any}
use Rattle.mds_marks.specs.Quality.{null}
use Rattle.mds_records.specs.declared.file.FaultCode.{FaultCode}
use Rattle.mds_records.specs.declared.file.FaultCode.TheVariants.{RunRange, RunOrder, NoValue}
pub use Rattle.mds_records.specs.FieldFaults.{first_of}
use Rattle.mds_runs.specs.Runs.{is_in_range, last_end}
use Rattle.mds_runs.specs.declared.cover.Run.{Run}

-- a code if a test is met
abbrev pub when : Bool → FaultCode → Option FaultCode
when test code = if test then Some code else None

-- some interval from first to last has no value: its field is empty
abbrev pub lacks_value : List (Option ℤ) → ℕ → ℕ → Bool
lacks_value values first last = list_any (λ value. is_none value) (take (last + 1 - first) (drop (first - 1) values))

-- L6, L7, L12 for a run after these runs, in a day of n intervals with these values
abbrev pub run_fault : ℕ → List Run → List (Option ℤ) → Run → Option FaultCode
run_fault n before values run = first_of (
    when (not (is_in_range n run.first run.last)) RunRange
    ∷ when (nat_le run.first (last_end before)) RunOrder
    ∷ when (not (run.mark.quality.flag == null) && lacks_value values run.first run.last) NoValue
    ∷ [])

-- The readings of a day. MDFF Specification, the 300 and 400 records: each interval has the mark of the run that holds it, or
-- else the mark of the 300. By this project's profile an interval under N has no value, even if its field has a number.
use Rattle.std.specs.Prelude.{ℕ, ◌-◌, Bool, ◌&&◌, ◌==◌, List, map, fold, slice_index_or, ℤ, pos, ◌+ℤ◌, Option, None, option_to_list}
use Rattle.std.specs.List.{flat_map, range_with_len}
use Rattle.mds_marks.specs.Quality.{variable}
use Rattle.mds_marks.specs.Reading.{ReadingValue}
use Rattle.mds_marks.specs.declared.mark.Mark.{Mark}
pub use Rattle.mds_runs.specs.Marked.{reading_by}
use Rattle.mds_runs.specs.Runs.{leaves_out, mark_at}
use Rattle.mds_runs.specs.declared.cover.Run.{Run}

-- the readings of a day's n intervals, from the 300's own mark, its runs and its value fields
abbrev pub readings_of : ℕ → Mark → List Run → List (Option ℤ) → List ReadingValue
readings_of n own runs values =
    map (λ i. reading_by (mark_at runs own i) (slice_index_or values (i - 1) None)) (range_with_len 1 n)

-- a day of variable quality whose runs leave an interval out
abbrev pub leaves_gap : ℕ → Mark → List Run → Bool
leaves_gap n own runs = (own.quality.flag == variable) && leaves_out n runs

-- the values of readings that have one, and their sum in millionths
abbrev pub amounts : List ReadingValue → List ℤ
amounts readings = flat_map (λ reading. option_to_list reading.value) readings

abbrev pub total : List ℤ → ℤ
total values = fold (λ sum value. sum +ℤ value) (pos 0) values

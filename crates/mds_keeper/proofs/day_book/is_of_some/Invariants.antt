use Rattle.std.proofs.Common.{◌≡◌, ◌<◌, ◌≤◌, ℕ, Some}
use Rattle.std.specs.List.{slice_get}
use Rattle.mds_calendar.specs.Length.{count_of}
use Rattle.mds_keeper.specs.declared.day_book.Version.{Version}
use Rattle.mds_keeper.proofs.day_book.is_of_some.Given as goal

abbrev pub invariant-loop-row : goal.invariant-loop-row
invariant-loop-row l =
    (k : ℕ) (row : ℕ × Version) → k < l.row-index → slice_get l.rows k ≡ Some row → 1 ≤ l.interval → l.interval ≤ count_of row.1.length → ⊥

use Rattle.std.proofs.Common.{◌≡◌, ◌≤◌, ◌+◌, length, drop}
use Rattle.mds_statements.specs.Selected.{days_of, most_days}
use Rattle.mds_statements.proofs.selection.are_few.Given as goal

abbrev pub invariant-loop-selected : goal.invariant-loop-selected
invariant-loop-selected l = record {
  rest : length (days_of l.streams) ≡ l.count + length (days_of (drop l.selected-index l.streams));
  few : l.count ≤ most_days;
}

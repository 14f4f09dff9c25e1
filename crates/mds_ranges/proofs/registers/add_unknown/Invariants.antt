use Rattle.std.proofs.Common.{◌≡◌, ◌-◌, ◌≤◌, ◌++◌}
use Rattle.mds_ranges.specs.RangesSteps.{whole_days}
use Rattle.mds_ranges.proofs.registers.add_unknown.Given as goal

abbrev pub invariant-loop-number : goal.invariant-loop-number
invariant-loop-number l = record {
  within : l.number - l.first ≤ l.end - l.first;
  rows : l.rows.items ≡ l.initial.rows.items ++ whole_days l.first (l.number - l.first);
}

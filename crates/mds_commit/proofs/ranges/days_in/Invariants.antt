use Rattle.std.proofs.Common.{◌≡◌, map, take}
use Rattle.mds_commit.specs.Cuts.{day_unit}
use Rattle.mds_commit.proofs.ranges.days_in.Given as goal

abbrev pub invariant-loop-row : goal.invariant-loop-row
invariant-loop-row l = l.days.items ≡ map day_unit (take l.row-index l.rows)

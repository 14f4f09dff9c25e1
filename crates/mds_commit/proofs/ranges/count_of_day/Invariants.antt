use Rattle.std.proofs.Common.{take}
use Rattle.mds_commit.specs.Ranges.{AreOfDay}
use Rattle.mds_commit.proofs.ranges.count_of_day.Given as goal

abbrev pub invariant-loop-i : goal.invariant-loop-i
invariant-loop-i l = AreOfDay l.day (take l.i l.rows)

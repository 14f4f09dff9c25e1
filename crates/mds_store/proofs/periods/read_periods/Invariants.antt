use Rattle.std.proofs.Common.{take}
use Rattle.mds_store.specs.Periods.{ArePeriodsIn}
use Rattle.mds_store.proofs.periods.read_periods.Given as goal

abbrev pub invariant-loop-i : goal.invariant-loop-i
invariant-loop-i l = ArePeriodsIn (take l.i l.rows) l.periods.items

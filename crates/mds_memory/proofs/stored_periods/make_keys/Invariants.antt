use Rattle.std.proofs.Common.{take}
use Rattle.mds_memory.proofs.StoredPeriods.{IsRoom}
use Rattle.mds_memory.proofs.stored_periods.make_keys.Given as goal

abbrev pub invariant-loop-period : goal.invariant-loop-period
invariant-loop-period l = IsRoom l.fn.periods (take l.period-index l.more) l.periods

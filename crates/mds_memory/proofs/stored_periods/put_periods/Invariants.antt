use Rattle.mds_memory.proofs.StoredPeriods.{ArePut}
use Rattle.mds_memory.proofs.stored_periods.put_periods.Given as goal

abbrev pub invariant-loop-period : goal.invariant-loop-period
invariant-loop-period l = ArePut l.fn.periods l.fn.more.items l.period-iterator.rest.items l.periods

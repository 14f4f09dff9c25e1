use Rattle.mds_memory.proofs.Runs.{IsRun}
use Rattle.mds_memory.proofs.StoredPeriods.{IsOf, from, period_at}
use Rattle.mds_memory.proofs.stored_periods.periods_of.Given as goal

abbrev pub invariant-loop-key : goal.invariant-loop-key
invariant-loop-key l = IsRun period_at (IsOf l.fn.stream) (from l.fn.periods l.fn.stream) l.found.items l.key-iterator

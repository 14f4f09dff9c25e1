use Rattle.mds_memory.proofs.Streams.{IsPeriodRun}
use Rattle.mds_memory.proofs.stored_periods.period_streams.Given as goal

abbrev pub invariant-loop-key : goal.invariant-loop-key
invariant-loop-key l = IsPeriodRun l.fn.periods l.streams.items l.key-iterator

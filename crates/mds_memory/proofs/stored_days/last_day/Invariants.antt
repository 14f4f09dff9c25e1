use Rattle.mds_memory.proofs.LastDay.{IsWalked}
use Rattle.mds_memory.proofs.stored_days.last_day.Given as goal

abbrev pub invariant-loop-place : goal.invariant-loop-place
invariant-loop-place l = IsWalked l.fn.days l.fn.stream l.place-iterator.iter

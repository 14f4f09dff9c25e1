use Rattle.mds_memory.proofs.CurrentDetails.{IsWalked}
use Rattle.mds_memory.proofs.stored_details.nearest.Given as goal

abbrev pub invariant-loop-meter : goal.invariant-loop-meter
invariant-loop-meter l = IsWalked l.fn.kept l.fn.stream l.fn.day l.last l.from l.meter-iterator

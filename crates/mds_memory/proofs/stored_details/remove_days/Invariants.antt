use Rattle.std.proofs.Common.{take}
use Rattle.mds_memory.proofs.Keys.{AreWithout}
use Rattle.mds_memory.proofs.stored_details.remove_days.Given as goal

abbrev pub invariant-loop-day : goal.invariant-loop-day
invariant-loop-day l = AreWithout l.days.keys l.fn.days.keys (take l.day-index l.some)

use Rattle.std.proofs.Common.{take}
use Rattle.mds_memory.proofs.Keys.{AreWith}
use Rattle.mds_memory.proofs.stored_details.add_days.Given as goal

abbrev pub invariant-loop-i : goal.invariant-loop-i
invariant-loop-i l = AreWith l.days.keys l.fn.days.keys (take l.i l.more)

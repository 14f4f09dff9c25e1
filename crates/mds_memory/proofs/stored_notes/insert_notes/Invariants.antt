use Rattle.std.proofs.Common.{take}
use Rattle.mds_memory.proofs.Keys.{AreWith}
use Rattle.mds_memory.proofs.stored_notes.insert_notes.Given as goal

abbrev pub invariant-loop-i : goal.invariant-loop-i
invariant-loop-i l = AreWith l.notes.keys l.fn.notes.keys (take l.i l.more)

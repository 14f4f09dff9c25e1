use Rattle.std.proofs.Common.{take}
use Rattle.mds_memory.specs.StoredDetails.{Gains, all_details}
use Rattle.mds_memory.proofs.stored_details.insert_details.Given as goal

abbrev pub invariant-loop-i : goal.invariant-loop-i
invariant-loop-i l = Gains l.fn.kept (all_details (take l.i l.more)) l.kept

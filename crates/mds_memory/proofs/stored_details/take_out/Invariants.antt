use Rattle.std.proofs.Common.{take}
use Rattle.mds_memory.specs.StoredDetails.{Loses, all_details}
use Rattle.mds_memory.proofs.stored_details.take_out.Given as goal

abbrev pub invariant-loop-group : goal.invariant-loop-group
invariant-loop-group l = Loses l.fn.kept (all_details (take l.group-index l.some)) l.kept

use Rattle.mds_memory.specs.StoredDetails.{details_world}
use Rattle.mds_memory.proofs.DetailsBetween.{AreBefore}
use Rattle.mds_memory.proofs.stored_details.details_between.Given as goal

abbrev pub invariant-loop-number : goal.invariant-loop-number
invariant-loop-number l = AreBefore (details_world l.fn.kept) l.fn.stream l.fn.first l.fn.last l.number l.rows.items

use Rattle.std.proofs.Common.{length}
use Rattle.mds_keeper.proofs.Walks.{Passes}
use Rattle.mds_keeper.proofs.day_merge.rows_from.Given as goal

abbrev pub invariant-loop-left : goal.invariant-loop-left
invariant-loop-left l = Passes l.rows l.interval l.left

abbrev pub decreases-loop-left : goal.decreases-loop-left
decreases-loop-left l = length l.left

use Rattle.std.proofs.Common.{length}
use Rattle.mds_keeper.proofs.Walks.{Seeks}
use Rattle.mds_keeper.proofs.day_merge.reading_at.Given as goal

abbrev pub invariant-loop-left : goal.invariant-loop-left
invariant-loop-left l = Seeks l.rows l.interval l.update l.left

abbrev pub decreases-loop-left : goal.decreases-loop-left
decreases-loop-left l = length l.left

use Rattle.mds_keeper.proofs.Walks.{IsWalked}
use Rattle.mds_keeper.proofs.day_merge.count_in_rows.Given as goal

abbrev pub invariant-loop-i : goal.invariant-loop-i
invariant-loop-i l = IsWalked l.book l.update l.readings l.left l.held l.i

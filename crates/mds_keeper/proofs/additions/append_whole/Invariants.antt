use Rattle.mds_keeper.proofs.RowsMoved.{AreCopied}
use Rattle.mds_keeper.proofs.additions.append_whole.Given as goal

abbrev pub invariant-loop-i : goal.invariant-loop-i
invariant-loop-i l = AreCopied l.length l.update l.readings l.fn.rows.items l.rows.items l.i

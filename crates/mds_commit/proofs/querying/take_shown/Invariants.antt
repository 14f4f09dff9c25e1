use Rattle.std.proofs.Common.{take}
use Rattle.mds_commit.specs.Shown.{AreLeft}
use Rattle.mds_commit.proofs.querying.take_shown.Given as goal

abbrev pub invariant-loop-i : goal.invariant-loop-i
invariant-loop-i l = AreLeft l.fn.left.keys (take l.i l.rows) l.left.keys

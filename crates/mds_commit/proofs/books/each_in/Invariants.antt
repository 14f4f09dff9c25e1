use Rattle.std.proofs.Common.{take}
use Rattle.mds_commit.specs.FormRows.{AreUnder}
use Rattle.mds_commit.proofs.books.each_in.Given as goal

abbrev pub invariant-loop-i : goal.invariant-loop-i
invariant-loop-i l = AreUnder (take l.i l.forms) (take l.i l.packs) l.versions.items

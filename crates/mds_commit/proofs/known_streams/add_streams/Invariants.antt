use Rattle.std.proofs.Common.{take}
use Rattle.mds_tables.specs.Added.{AreAdded}
use Rattle.mds_commit.specs.StreamRows.{SaysStream}
use Rattle.mds_commit.proofs.known_streams.add_streams.Given as goal

abbrev pub invariant-loop-i : goal.invariant-loop-i
invariant-loop-i l = AreAdded SaysStream l.fn.found.keys (take l.i l.rows) l.found.keys

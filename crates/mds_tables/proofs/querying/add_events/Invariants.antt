use Rattle.std.proofs.Common.{take}
use Rattle.mds_tables.specs.Added.{AreAdded, SaysEvent}
use Rattle.mds_tables.proofs.querying.add_events.Given as goal

abbrev pub invariant-loop-i : goal.invariant-loop-i
invariant-loop-i l = AreAdded SaysEvent l.fn.found.keys (take l.i l.rows) l.found.keys

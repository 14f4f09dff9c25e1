use Rattle.std.proofs.Common.{take}
use Rattle.mds_tables.specs.Added.{AreAdded}
use Rattle.mds_store.specs.Said.{SaysHoliday}
use Rattle.mds_store.proofs.querying.add_holidays.Given as goal

abbrev pub invariant-loop-i : goal.invariant-loop-i
invariant-loop-i l = AreAdded SaysHoliday l.fn.found.keys (take l.i l.rows) l.found.keys

use Rattle.std.proofs.Common.{take}
use Rattle.mds_tables.specs.Stores.{AreRowsOf}
use Rattle.mds_tables.specs.MadeRows.{IsRowOfPeriod}
use Rattle.mds_tables.proofs.periods.period_rows.Given as goal

abbrev pub invariant-loop-i : goal.invariant-loop-i
invariant-loop-i l = AreRowsOf IsRowOfPeriod (take l.i l.periods) l.rows.items

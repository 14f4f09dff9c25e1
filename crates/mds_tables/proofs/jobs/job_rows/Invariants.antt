use Rattle.std.proofs.Common.{take}
use Rattle.mds_tables.specs.Stores.{AreRowsOf}
use Rattle.mds_tables.specs.MadeRows.{IsRowOfJob}
use Rattle.mds_tables.proofs.jobs.job_rows.Given as goal

abbrev pub invariant-loop-i : goal.invariant-loop-i
invariant-loop-i l = AreRowsOf IsRowOfJob (take l.i l.jobs) l.rows.items

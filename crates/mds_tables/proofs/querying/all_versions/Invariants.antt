use Rattle.std.proofs.Common.{take}
use Rattle.mds_tables.specs.Shown.{AreVersionsIn}
use Rattle.mds_tables.proofs.querying.all_versions.Given as goal

abbrev pub invariant-loop-i : goal.invariant-loop-i
invariant-loop-i l = AreVersionsIn l.length (take l.i l.rows) l.versions.items

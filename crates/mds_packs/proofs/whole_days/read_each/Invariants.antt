use Rattle.std.proofs.Common.{drop}
use Rattle.mds_runs.specs.GapSteps.{marks_after}
use Rattle.mds_packs.specs.Unpacked.{readings_at}
use Rattle.mds_packs.proofs.HeldReads.{AreOver}
use Rattle.mds_packs.proofs.whole_days.read_each.Given as goal

abbrev pub invariant-loop-run : goal.invariant-loop-run
invariant-loop-run l = AreOver l.count l.readings (drop l.run-index l.runs) l.rest (readings_at (marks_after l.count 0 l.runs) l.bytes)

use Rattle.std.proofs.Common.{◌≡◌, drop, length}
use Rattle.mds_runs.specs.GapSteps.{marks_after}
use Rattle.mds_packs.specs.Unpacked.{readings_at}
use Rattle.mds_packs.specs.LoopSteps.{with_front}
use Rattle.mds_packs.proofs.Loops.{Behind}
use Rattle.mds_packs.proofs.unpacking.read_readings.Given as goal

abbrev pub invariant-loop-run : goal.invariant-loop-run
invariant-loop-run l = record {
  behind : Behind l.count (length l.readings.items) (drop l.run-index l.runs);
  read : with_front l.readings.items (readings_at (marks_after l.count (length l.readings.items) (drop l.run-index l.runs)) l.rest) ≡ readings_at (marks_after l.count 0 l.runs) l.bytes;
}

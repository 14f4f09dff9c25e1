use Rattle.std.proofs.Common.{◌≡◌, ◌-◌, ◌+◌, replicate, Some}
use Rattle.mds_packs.specs.Unpacked.{readings_at}
use Rattle.mds_packs.specs.LoopSteps.{with_front}
use Rattle.mds_packs.proofs.unpacking.read_run.Given as goal

abbrev pub invariant-loop : goal.invariant-loop
invariant-loop l = with_front l.readings.items (readings_at (replicate (l.run.last + 1 - l.run.first - l.counter) (Some l.run.mark)) l.rest) ≡ with_front l.initial.readings.items (readings_at (replicate (l.run.last + 1 - l.run.first) (Some l.run.mark)) l.bytes)

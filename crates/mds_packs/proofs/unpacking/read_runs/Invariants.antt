use Rattle.std.proofs.Common.{◌≡◌, ◌-◌}
use Rattle.mds_packs.specs.Unpacked.{runs_at}
use Rattle.mds_packs.specs.LoopSteps.{with_front}
use Rattle.mds_packs.proofs.unpacking.read_runs.Given as goal

abbrev pub invariant-loop : goal.invariant-loop
invariant-loop l = with_front l.runs.items (runs_at (l.number - l.counter) l.rest) ≡ with_front l.initial.runs.items (runs_at l.number l.bytes)

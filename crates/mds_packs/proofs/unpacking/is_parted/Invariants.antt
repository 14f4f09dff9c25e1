use Rattle.std.proofs.Common.{◌≡◌, drop, None}
use Rattle.std.specs.Prelude.{option_map}
use Rattle.mds_runs.specs.GapSteps.{are_parted}
use Rattle.mds_packs.proofs.unpacking.is_parted.Given as goal

abbrev pub invariant-loop-run : goal.invariant-loop-run
invariant-loop-run l = are_parted l.count (option_map (λ r. r.now) l.last) (drop l.run-index l.runs) ≡ are_parted l.count None l.runs

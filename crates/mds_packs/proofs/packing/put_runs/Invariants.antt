use Rattle.std.proofs.Common.{◌≡◌, ◌++◌, ◌+◌, ◌-◌, ◌≤◌, drop, length}
use Rattle.std.specs.List.{flat_map}
use Rattle.mds_runs.specs.Gaps.{runs_of}
use Rattle.mds_packs.specs.Body.{marks_of, run_bytes, runs_in}
use Rattle.mds_packs.proofs.packing.put_runs.Given as goal

abbrev pub invariant-loop-place : goal.invariant-loop-place
invariant-loop-place l = record {
  written : l.out.items ++ flat_map run_bytes (runs_of (l.place + 1) (drop l.place (marks_of l.readings))) ≡ l.initial.out.items ++ flat_map run_bytes (runs_in l.readings);
  counted : l.number + length (runs_of (l.place + 1) (drop l.place (marks_of l.readings))) ≡ length (runs_in l.readings);
  within : l.place ≤ length l.readings;
}

abbrev pub decreases-loop-place : goal.decreases-loop-place
decreases-loop-place l = length l.readings - l.place

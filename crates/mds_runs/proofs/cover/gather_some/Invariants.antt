use Rattle.std.proofs.Common.{◌≡◌, ◌++◌, ◌+◌, ◌-◌, ◌≤◌, drop, length}
use Rattle.mds_runs.specs.RunSteps.{held_by}
use Rattle.mds_runs.specs.Gaps.{runs_of}
use Rattle.mds_runs.proofs.cover.gather_some.Given as goal

abbrev pub invariant-loop-start : goal.invariant-loop-start
invariant-loop-start l = record {
  gathered : l.runs.items ++ runs_of (l.start + 1) (drop l.start l.marks) ≡ runs_of 1 l.marks;
  counted : l.held + held_by (runs_of (l.start + 1) (drop l.start l.marks)) ≡ held_by (runs_of 1 l.marks);
  within : l.start ≤ length l.marks;
}

abbrev pub decreases-loop-start : goal.decreases-loop-start
decreases-loop-start l = length l.marks - l.start

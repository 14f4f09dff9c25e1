use Rattle.std.proofs.Common.{◌≡◌, ◌++◌, ◌+◌, take, drop, length}
use Rattle.mds_runs.specs.RunSteps.{runs_from}
use Rattle.mds_runs.specs.Gaps.{overlaid}
use Rattle.mds_runs.proofs.cover.set_marks.Given as goal

abbrev pub invariant-loop-k : goal.invariant-loop-k
invariant-loop-k l = record {
  left : l.left ≡ runs_from l.runs l.k;
  laid : take l.k l.marks.items ++ overlaid l.runs (l.k + 1) (drop l.k l.marks.items) ≡ overlaid l.runs 1 l.initial.marks.items;
  same : length l.marks.items ≡ length l.initial.marks.items;
}

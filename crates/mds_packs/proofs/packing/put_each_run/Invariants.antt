use Rattle.std.proofs.Common.{◌≡◌, ◌++◌, take}
use Rattle.std.specs.List.{flat_map}
use Rattle.mds_packs.specs.Body.{run_bytes}
use Rattle.mds_packs.proofs.packing.put_each_run.Given as goal

abbrev pub invariant-loop-run : goal.invariant-loop-run
invariant-loop-run l = l.out.items ≡ l.initial.out.items ++ flat_map run_bytes (take l.run-index l.runs)

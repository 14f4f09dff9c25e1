use Rattle.std.proofs.Common.{◌≡◌, take}
use Rattle.mds_runs.proofs.day_readings.copied.Given as goal

abbrev pub invariant-loop-run : goal.invariant-loop-run
invariant-loop-run l = l.copies.items ≡ take l.run-index l.runs

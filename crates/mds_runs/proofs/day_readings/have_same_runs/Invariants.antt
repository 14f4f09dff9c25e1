use Rattle.std.proofs.Common.{◌≡◌, take}
use Rattle.mds_runs.proofs.day_readings.have_same_runs.Given as goal

abbrev pub invariant-loop-k : goal.invariant-loop-k
invariant-loop-k l = take l.k l.one ≡ take l.k l.other

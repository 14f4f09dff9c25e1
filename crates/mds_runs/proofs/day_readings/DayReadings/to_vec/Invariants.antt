use Rattle.std.proofs.Common.{◌≡◌, take}
use Rattle.mds_runs.proofs.day_readings.DayReadings.to_vec.Given as goal

abbrev pub invariant-loop-at : goal.invariant-loop-at
invariant-loop-at l = l.readings.items ≡ take l.at l.self

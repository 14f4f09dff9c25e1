use Rattle.std.proofs.Common.{◌≡◌, take}
use Rattle.mds_runs.proofs.day_readings.DayReadings.of.Given as goal

abbrev pub invariant-loop-reading : goal.invariant-loop-reading
invariant-loop-reading l = l.kept ≡ take l.reading-index l.readings

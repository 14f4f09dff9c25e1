use Rattle.std.proofs.Common.{◌≡◌, ◌+◌}
use Rattle.mds_days.specs.Readings.{readings_of}
use Rattle.mds_days.proofs.Wholes.{GoOn}
use Rattle.mds_days.proofs.day.DayData.readings.Given as goal

abbrev pub invariant-loop-k : goal.invariant-loop-k
invariant-loop-k l =
    (l.readings ≡ readings_of l.k l.self-inside.mark l.self-inside.cover.runs l.self-inside.values)
    × GoOn l.self-inside.mark l.self-inside.cover.runs (l.k + 1) l.runs

use Rattle.std.proofs.Common.{◌+◌}
use Rattle.mds_days.specs.Readings.{amounts, readings_of}
use Rattle.mds_days.proofs.Wholes.{GoOn}
use Rattle.mds_days.proofs.Tallies.{Counts}
use Rattle.mds_days.proofs.day.DayData.tally.Given as goal

abbrev pub invariant-loop-k : goal.invariant-loop-k
invariant-loop-k l =
    Counts l.k (amounts (readings_of l.k l.self-inside.mark l.self-inside.cover.runs l.self-inside.values)) l.tally
    × GoOn l.self-inside.mark l.self-inside.cover.runs (l.k + 1) l.runs

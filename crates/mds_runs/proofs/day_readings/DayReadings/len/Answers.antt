use Rattle.std.proofs.Common.{arith}
use Rattle.mds_runs.proofs.KeptLemmas.{kept-length-in}
use Rattle.mds_runs.proofs.day_readings.DayReadings.len.Goals as goal

pub returns-clause-value : goal.returns-clause-value
returns-clause-value c =
    omega (arith, kept-length-in c.self.inside.runs.items c.self.inside.millionths.items c.args.self.now c.self.invariant c.self.view_is)

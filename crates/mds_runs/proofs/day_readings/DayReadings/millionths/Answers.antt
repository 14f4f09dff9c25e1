use Rattle.std.proofs.Common.{◌∙◌}
use Rattle.mds_runs.proofs.KeptLemmas.{kept-numbers}
use Rattle.mds_runs.proofs.day_readings.DayReadings.millionths.Goals as goal

pub returns : goal.returns
returns c =
    c.as_slice.ensures.value
    ∙ kept-numbers c.self.inside.runs.items c.self.inside.millionths.items c.args.self.now c.self.invariant c.self.view_is

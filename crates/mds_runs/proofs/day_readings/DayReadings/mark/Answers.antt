use Rattle.mds_runs.proofs.KeptLemmas.{holds-at, mark-in}
use Rattle.mds_runs.proofs.day_readings.DayReadings.mark.Goals as goal

pub mark_at-requires : goal.mark_at-requires
mark_at-requires c =
    holds-at c.self.inside.runs.items c.deref.result.now c.self.inside.millionths.items c.args.self.now c.args.at c.self.invariant c.self.view_is c.deref.ensures.value c.requires

pub returns : goal.returns
returns c = λ d.
    mark-in c.self.inside.runs.items c.deref.result.now c.self.inside.millionths.items c.args.self.now c.args.at c.mark_at.result.now d c.self.invariant c.self.view_is c.deref.ensures.value c.requires c.mark_at.ensures

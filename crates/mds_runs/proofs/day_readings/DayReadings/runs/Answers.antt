use Rattle.std.proofs.Common.{ap, ◌∙◌, map, Some}
use Rattle.mds_marks.specs.Reading.{ReadingValue}
use Rattle.mds_runs.specs.Gaps.{runs_of}
use Rattle.mds_runs.proofs.KeptLemmas.{kept-runs}
use Rattle.mds_runs.proofs.day_readings.DayReadings.runs.Goals as goal

pub returns : goal.returns
returns c =
    c.as_slice.ensures.value
    ∙ kept-runs c.self.inside.runs.items c.self.inside.millionths.items c.self.invariant.close
    ∙ ap (λ l. runs_of 1 (map (λ (r : ReadingValue). Some r.mark) l)) c.self.view_is

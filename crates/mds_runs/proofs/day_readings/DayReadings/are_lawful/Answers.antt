use Rattle.std.proofs.Common.{sym, ap, ◌∙◌}
use Rattle.std.specs.List.{list_all}
use Rattle.mds_marks.specs.Reading.{is_lawful}
use Rattle.mds_runs.specs.KeptReadings.{pairs_kept}
use Rattle.mds_runs.proofs.KeptLemmas.{all_lawful}
use Rattle.mds_runs.proofs.day_readings.DayReadings.are_lawful.Goals as goal

pub returns : goal.returns
returns c =
    ap (list_all is_lawful) (sym c.self.view_is) ∙ all_lawful (pairs_kept c.self.inside.runs.items c.self.inside.millionths.items) c.self.invariant.lawful

use Rattle.std.proofs.Common.{sym}
use Rattle.mds_runs.proofs.CloseRuns.{last-mark}
use Rattle.mds_runs.proofs.day_readings.ends_with.Goals as goal

pub returns-in-Some : goal.returns-in-Some
returns-in-Some c =
    last-mark c.args.runs.now c.in-Some.run'.now c.args.mark.now c.is_same.result (sym c.in-Some.ensures.value) c.is_same.ensures

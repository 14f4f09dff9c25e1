use Rattle.std.proofs.Common.{◌-◌, arith}
use Rattle.mds_runs.proofs.CloseRuns.{set-last}
use Rattle.mds_runs.proofs.day_readings.lengthen.Goals as goal

pub returns : goal.returns
returns c =
    set-last c.args.runs.now.items (c.len-place.result - 1) c.args.end c.index_mut.result.now (omega (arith, c.args.runs.now.ok.0)) c.index_mut.ensures.value

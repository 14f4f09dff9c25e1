use Rattle.std.proofs.Common.{◌≡◌, ◌+◌, arith}
use Rattle.mds_runs.proofs.CloseRuns.{first_holds, found, found_within}
use Rattle.mds_runs.proofs.day_readings.mark_at.Goals as goal

pub returns-then-at-from : goal.returns-then-at-from
returns-then-at-from c =
    first_holds c.args.runs.now c.run-item.result c.args.at c.in-len1-up.len_at_least c.run-item.is (omega arith)

pub bounds-runs-place_of : goal.bounds-runs-place_of
bounds-runs-place_of c =
    found_within 0 c.args.runs.now c.requires.0 c.args.at c.place_of.result c.requires.1 c.requires.2 (omega arith) c.place_of.ensures

pub returns : goal.returns
returns c =
    let at : 0 + c.args.at ≡ c.args.at = omega arith in
    found 0 c.args.runs.now c.requires.0 c.args.at c.place_of.result c.args.at c.index-runs-place_of.result c.requires.1 at c.requires.2 c.place_of.ensures

use Rattle.mds_runs.proofs.GapRuns.{same_mark_decides}
use Rattle.mds_packs.proofs.unpacking.is_one_mark.Goals as goal

pub returns : goal.returns
returns c = same_mark_decides c.args.one.now c.args.other.now c.is_same.result c.is_same.ensures

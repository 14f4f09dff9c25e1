use Rattle.mds_world.proofs.Worlds.{counts}
use Rattle.mds_world.proofs.laws.counts_grow.Goals as goal

pub returns : goal.returns
returns c = counts

use Rattle.mds_world.proofs.Worlds.{one_reading}
use Rattle.mds_world.proofs.laws.one_current.Goals as goal

pub returns : goal.returns
returns c = one_reading

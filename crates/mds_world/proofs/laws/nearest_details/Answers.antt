use Rattle.mds_world.proofs.Nearest.{nearest}
use Rattle.mds_world.proofs.laws.nearest_details.Goals as goal

pub returns : goal.returns
returns c = nearest

use Rattle.mds_world.proofs.Worlds.{known_or_added}
use Rattle.mds_world.proofs.laws.known_or_added.Goals as goal

pub returns : goal.returns
returns c = known_or_added

use Rattle.mds_world.proofs.Worlds.{either_order, split}
use Rattle.mds_world.proofs.laws.any_order.Goals as goal

pub returns-clause-worlds : goal.returns-clause-worlds
returns-clause-worlds c = either_order

pub returns-clause-split : goal.returns-clause-split
returns-clause-split c = split

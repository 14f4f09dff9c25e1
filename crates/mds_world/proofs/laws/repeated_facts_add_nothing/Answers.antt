use Rattle.mds_world.proofs.Worlds.{adds_nothing, changes_nothing}
use Rattle.mds_world.proofs.laws.repeated_facts_add_nothing.Goals as goal

pub returns-clause-added : goal.returns-clause-added
returns-clause-added c = adds_nothing

pub returns-clause-world : goal.returns-clause-world
returns-clause-world c = changes_nothing

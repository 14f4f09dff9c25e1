use Rattle.mds_world.proofs.Details.{one_details, some_details}
use Rattle.mds_world.proofs.laws.one_details.Goals as goal

pub returns-clause-some : goal.returns-clause-some
returns-clause-some c = some_details

pub returns-clause-one : goal.returns-clause-one
returns-clause-one c = one_details

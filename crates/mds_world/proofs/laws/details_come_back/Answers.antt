use Rattle.mds_world.proofs.Returned.{details_alone, details_beside}
use Rattle.mds_world.proofs.laws.details_come_back.Goals as goal

pub returns-clause-beside : goal.returns-clause-beside
returns-clause-beside c = details_beside

pub returns-clause-alone : goal.returns-clause-alone
returns-clause-alone c = details_alone

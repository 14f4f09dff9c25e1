use Rattle.mds_laws.proofs.Changed.{change_places}
use Rattle.mds_laws.proofs.Exchange.{may_change_places}
use Rattle.mds_laws.proofs.laws.a_job_and_a_file_change_places.Goals as goal

pub returns-clause-both : goal.returns-clause-both
returns-clause-both c = change_places

pub returns-clause-either : goal.returns-clause-either
returns-clause-either c = may_change_places

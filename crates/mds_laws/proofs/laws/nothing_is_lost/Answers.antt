use Rattle.mds_laws.proofs.Kept.{counts_of_run, each_came_by_one, law_stays, nothing_is_altered, nothing_is_missing}
use Rattle.mds_laws.proofs.Origins.{each_period_came_by_file}
use Rattle.mds_laws.proofs.laws.nothing_is_lost.Goals as goal

pub returns-clause-lawful : goal.returns-clause-lawful
returns-clause-lawful c = law_stays

pub returns-clause-missing : goal.returns-clause-missing
returns-clause-missing c = nothing_is_missing

pub returns-clause-altered : goal.returns-clause-altered
returns-clause-altered c = nothing_is_altered

pub returns-clause-count : goal.returns-clause-count
returns-clause-count c = counts_of_run

pub returns-clause-origin : goal.returns-clause-origin
returns-clause-origin c = each_came_by_one

pub returns-clause-periods : goal.returns-clause-periods
returns-clause-periods c = each_period_came_by_file

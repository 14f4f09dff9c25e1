use Rattle.mds_walk.proofs.Early.{fault_is_fed}
use Rattle.mds_walk.proofs.Stops.{fault_of_all}
use Rattle.mds_nem12.specs.Faults.{fault_of, nem12}
use Rattle.mds_nem12.proofs.Names.{names_lines}
use Rattle.mds_nem12.proofs.laws.fault_is_fed.Goals as goal

pub returns-clause-every : goal.returns-clause-every
unfolding fault_of
returns-clause-every c text more fault e = fault_of_all nem12 text more fault e

pub returns-clause-early : goal.returns-clause-early
unfolding fault_of
returns-clause-early c text fault e within = fault_is_fed nem12 names_lines text fault e within

use Rattle.mds_walk.proofs.Parts.{pieces_so_far}
use Rattle.mds_walk.proofs.Stops.{fault_of_all, fault_stays, none_held_back}
use Rattle.mds_walk.proofs.laws.fault_so_far_is_of_every_longer_text.Goals as goal

pub returns-clause-lines : goal.returns-clause-lines
returns-clause-lines c = pieces_so_far

pub returns-clause-stays : goal.returns-clause-stays
returns-clause-stays c = fault_stays

pub returns-clause-every : goal.returns-clause-every
returns-clause-every c = fault_of_all

pub returns-clause-early : goal.returns-clause-early
returns-clause-early c = none_held_back

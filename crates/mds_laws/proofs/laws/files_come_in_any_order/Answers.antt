use Rattle.mds_laws.proofs.AnyOrder.{each_is_taken_in, parts_end_as_the_whole, same_facts_end_alike}
use Rattle.mds_laws.proofs.Parts.{parts_state_the_whole}
use Rattle.mds_laws.proofs.laws.files_come_in_any_order.Goals as goal

pub returns-clause-each : goal.returns-clause-each
returns-clause-each c = each_is_taken_in

pub returns-clause-alike : goal.returns-clause-alike
returns-clause-alike c = same_facts_end_alike

pub returns-clause-parts : goal.returns-clause-parts
returns-clause-parts c = parts_state_the_whole

pub returns-clause-split : goal.returns-clause-split
returns-clause-split c = parts_end_as_the_whole

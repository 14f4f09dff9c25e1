use Rattle.mds_laws.proofs.Worlds.{each_fact_counts_once, lists_are_their_facts, unions_have_both, worlds_are_their_facts}
use Rattle.mds_laws.proofs.laws.a_world_is_its_facts.Goals as goal

pub returns-clause-equal : goal.returns-clause-equal
returns-clause-equal c = worlds_are_their_facts

pub returns-clause-both : goal.returns-clause-both
returns-clause-both c = unions_have_both

pub returns-clause-listed : goal.returns-clause-listed
returns-clause-listed c = lists_are_their_facts

pub returns-clause-count : goal.returns-clause-count
returns-clause-count c = each_fact_counts_once

-- A World is the facts that are in it.
use Rattle.std.proofs.Common.{inl, inr}
use Rattle.mds_world.proofs.Members.{in_list, in_union, len_list, list_in, same_by, union_left, union_right}
use Rattle.mds_laws.specs.Worlds.{EachFactCountsOnce, ListsAreTheirFacts, UnionsHaveBoth, WorldsAreTheirFacts}

pub worlds_are_their_facts : WorldsAreTheirFacts
worlds_are_their_facts a b same = same_by a b (λ f. (same f).0) (λ f. (same f).1)

pub unions_have_both : UnionsHaveBoth
unions_have_both a b f = (in_union a b f, elim [ inl h ↦ union_left a b f h | inr h ↦ union_right a b f h ])

pub lists_are_their_facts : ListsAreTheirFacts
lists_are_their_facts facts f = (in_list facts f, list_in facts f)

pub each_fact_counts_once : EachFactCountsOnce
each_fact_counts_once facts apart = len_list facts apart

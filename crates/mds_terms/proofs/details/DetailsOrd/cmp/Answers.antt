use Rattle.mds_terms.specs.Details.{details_cmp}
use Rattle.mds_terms.proofs.TermOrder.{in_turn}
use Rattle.mds_terms.proofs.details.DetailsOrd.cmp.Goals as goal

pub returns : goal.returns
unfolding details_cmp
returns c = rw (c.then-4.ensures, c.then-3.ensures, c.then-2.ensures, c.then.ensures) (simp in_turn (cc))

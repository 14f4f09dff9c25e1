use Rattle.mds_terms.specs.Event.{event_cmp}
use Rattle.mds_terms.proofs.TermOrder.{in_turn}
use Rattle.mds_terms.proofs.event.EventOrd.cmp.Goals as goal

pub returns : goal.returns
unfolding event_cmp
returns c =
    rw (c.then-6.ensures, c.then-5.ensures, c.then-4.ensures, c.then-3.ensures, c.then-2.ensures, c.then.ensures)
    (simp in_turn (cc))

use Rattle.mds_http.proofs.Runs.{connections_run, refused_none, unasked}
use Rattle.mds_http.proofs.laws.laws_of.Goals as goal

pub returns-clause-run : goal.returns-clause-run
returns-clause-run g c = connections_run _ c.laws_of.ensures.steps g.met.K.Keeper.settled

pub returns-clause-refused : goal.returns-clause-refused
returns-clause-refused g c = refused_none _ c.laws_of.ensures.head

pub returns-clause-unasked : goal.returns-clause-unasked
returns-clause-unasked g c = unasked _ c.laws_of.ensures.head

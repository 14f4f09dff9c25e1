use Rattle.mds_tables.proofs.Adding.{inserted}
use Rattle.mds_tables.proofs.querying.put.Goals as goal

pub returns : goal.returns
returns g c exact = inserted g.met.T.Ord.total exact c.args.found.now c.insert.new.self c.args.item c.in_ok-insert.ensures.updates.0

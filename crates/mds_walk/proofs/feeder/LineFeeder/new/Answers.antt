use Rattle.std.proofs.Common.{[], refl}
use Rattle.mds_walk.proofs.Steps.{fed_none, was_fed}
use Rattle.mds_walk.proofs.feeder.LineFeeder.new.Goals as goal

pub returns-clause-fed : goal.returns-clause-fed
returns-clause-fed g c = was_fed g.T.RecordSink.judge g.T.RecordSink.taken [] _ (fed_none _ c.new.ensures c.new-2.ensures.items refl)

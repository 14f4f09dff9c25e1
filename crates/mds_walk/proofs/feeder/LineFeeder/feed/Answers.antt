use Rattle.std.proofs.Common.{sym, ◌∙◌}
use Rattle.mds_walk.proofs.Steps.{fed_refused, none_fed, refused_fed, refusal_stays}
use Rattle.mds_walk.proofs.feeder.LineFeeder.feed.Goals as goal

pub returns-in-Some-clause-fed : goal.returns-in-Some-clause-fed
returns-in-Some-clause-fed g c = λ text h.
    let kept = sym c.fault.ensures ∙ c.in-Some.is in
    fed_refused g.T.RecordSink.judge g.T.RecordSink.taken _ _ _ kept (refusal_stays g.T.RecordSink.judge text c.args.piece.now _ (refused_fed g.T.RecordSink.judge g.T.RecordSink.taken text _ _ kept h))

pub returns-in-Some-clause-answer : goal.returns-in-Some-clause-answer
returns-in-Some-clause-answer g c = λ text h.
    refusal_stays g.T.RecordSink.judge text c.args.piece.now _ (refused_fed g.T.RecordSink.judge g.T.RecordSink.taken text _ _ (sym c.fault.ensures ∙ c.in-Some.is) h)

pub returns-in-None-clause-memory : goal.returns-in-None-clause-memory
returns-in-None-clause-memory g c = λ text h none wanting.
    c.feed_next.ensures.memory text (none_fed g.T.RecordSink.judge g.T.RecordSink.taken text c.args.self.now none h) wanting

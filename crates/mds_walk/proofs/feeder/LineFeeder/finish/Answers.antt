use Rattle.std.proofs.Common.{sym, ◌∙◌}
use Rattle.mds_walk.proofs.Steps.{refused_fed, refusal_ends}
use Rattle.mds_walk.proofs.feeder.LineFeeder.finish.Goals as goal

pub returns-in-Some-clause-ended : goal.returns-in-Some-clause-ended
returns-in-Some-clause-ended g c = λ text h.
    refusal_ends g.T.RecordSink.judge text _ (refused_fed g.T.RecordSink.judge g.T.RecordSink.taken text _ _ (sym c.fault.ensures ∙ c.in-Some.is) h)

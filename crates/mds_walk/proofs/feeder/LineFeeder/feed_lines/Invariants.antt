use Rattle.std.proofs.Common.{length}
use Rattle.mds_walk.proofs.Steps.{IsFeeding}
use Rattle.mds_walk.proofs.feeder.LineFeeder.feed_lines.Given as goal

abbrev pub invariant-loop-size : goal.invariant-loop-size
invariant-loop-size g l = IsFeeding g.T.RecordSink.judge g.T.RecordSink.taken l.fn.piece l.left l.fn.self l.self

abbrev pub decreases-loop-size : goal.decreases-loop-size
decreases-loop-size g l = length l.left

use Rattle.std.proofs.Common.{refl}
use Rattle.mds_walk.proofs.Steps.{feeding_none, feeding_more, feeding_stops, feeding_ends, feeding_wanting, has_line, has_none, keeping_wanting}
use Rattle.mds_walk.proofs.feeder.LineFeeder.feed_lines.Goals as goal

pub loop-size-init : goal.loop-size-init
loop-size-init g c = feeding_none _ _

pub loop-size-preserved : goal.loop-size-preserved
loop-size-preserved g c =
    feeding_more _ _ _ _ _ _ _ c.loop-size.invariant
    (has_line _ _ _ _ _ c.in-Some.ensures c.split_at.ensures.front c.split_at.ensures.back c.split_at-in-Some.ensures.back) c.in_default-end_line.ensures.fed

pub returns-in-Err-clause-fed : goal.returns-in-Err-clause-fed
returns-in-Err-clause-fed g c =
    feeding_stops _ _ _ _ _ _ _ c.loop-size.invariant
    (has_line _ _ _ _ _ c.in-Some.ensures c.split_at.ensures.front c.split_at.ensures.back refl) c.in-Err.ensures.fed

pub returns-clause-fed : goal.returns-clause-fed
returns-clause-fed g c = feeding_ends _ _ _ _ _ _ c.loop-size.invariant (has_none _ c.in_default.ensures) c.keep.ensures.fed

pub returns-in-Err-clause-memory : goal.returns-in-Err-clause-memory
returns-in-Err-clause-memory g c =
    feeding_wanting g.T.RecordSink.may_lack _ _ _ _ _ _ _ c.loop-size.invariant
    (has_line _ _ _ _ _ c.in-Some.ensures c.split_at.ensures.front c.split_at.ensures.back refl) c.in-Err.ensures.memory

pub returns-clause-memory : goal.returns-clause-memory
returns-clause-memory g c =
    keeping_wanting g.T.RecordSink.may_lack _ _ _ _ _ c.loop-size.invariant (has_none _ c.in_default.ensures) c.keep.ensures.memory

use Rattle.mds_memory.proofs.Streams.{period_streams_done, with_content, without_content}
use Rattle.mds_memory.proofs.stored_periods.period_streams.Goals as goal

pub loop-key-preserved-in-Continue-1 : goal.loop-key-preserved-in-Continue-1
loop-key-preserved-in-Continue-1 c =
    with_content c.args.periods.now _ c.push_new.new.streams.items _ c.next.new.self c.in-Some.key.now c.in-Some.kept.now
    c.requires c.loop-key.invariant c.in-Some.ensures.steps c.if-is_some.ensures c.in_ok-push_new.ensures

pub loop-key-preserved : goal.loop-key-preserved
loop-key-preserved c =
    without_content c.args.periods.now _ _ c.next.new.self c.in-Some.key.now c.in-Some.kept.now c.loop-key.invariant
    c.in-Some.ensures.steps c.if-is_some.ensures

pub returns : goal.returns
returns c = period_streams_done c.args.periods.now _ _ c.loop-key.invariant c.in-None.ensures.steps.0

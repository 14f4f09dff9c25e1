use Rattle.mds_memory.proofs.Streams.{heads_begin, heads_done, with_head, without_head}
use Rattle.mds_memory.proofs.memory.head_streams.Goals as goal

pub loop-place-init : goal.loop-place-init
loop-place-init c =
    heads_begin c.args.days.now _ _ c.new-streams.ensures.items c.into_iter-place-iterator.ensures.into_iter_gives.0

pub loop-place-preserved-in-Continue-1 : goal.loop-place-preserved-in-Continue-1
loop-place-preserved-in-Continue-1 c =
    with_head c.args.days.now _ c.push_new.new.streams.items _ c.next.new.self c.in-Some.place.now c.in-Some.book.now
    c.requires.ordered c.loop-place.invariant c.in-Some.ensures.steps c.if-has_head.ensures c.in_ok-push_new.ensures

pub loop-place-preserved : goal.loop-place-preserved
loop-place-preserved c =
    without_head c.args.days.now _ _ c.next.new.self c.in-Some.place.now c.in-Some.book.now c.loop-place.invariant
    c.in-Some.ensures.steps c.if-has_head.ensures

pub returns : goal.returns
returns c = heads_done c.args.days.now _ _ c.requires c.loop-place.invariant c.in-None.ensures.steps.0

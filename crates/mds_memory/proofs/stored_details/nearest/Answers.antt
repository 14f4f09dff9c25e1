use Rattle.std.proofs.Common.{◌≡◌, rules}
use Rattle.mds_memory.proofs.CurrentDetails.{IsOf, last_none, last_some, nearer, passed}
use Rattle.mds_memory.proofs.Runs.{at_end, at_other}
use Rattle.mds_memory.proofs.stored_details.nearest.Goals as goal

pub loop-meter-preserved-in_default : goal.loop-meter-preserved-in_default
loop-meter-preserved-in_default c =
    let its : c.in-Some.meter.now.stream ≡ c.args.stream.now = search rules in
    passed c.args.kept.now c.args.stream.now c.args.day c.loop-meter.last c.loop-meter.from _ c.next.new.self
    c.in-Some.meter.now c.in-Some.days.now c.loop-meter.invariant c.in-Some.ensures.steps its c.in_default.ensures.none

pub loop-meter-preserved : goal.loop-meter-preserved
loop-meter-preserved c =
    let its : c.in-Some.meter.now.stream ≡ c.args.stream.now = search rules in
    nearer c.args.kept.now c.args.stream.now c.args.day c.range-meter-items.ensures.ordered c.loop-meter.last
    c.loop-meter.from _ c.next.new.self c.in-Some.meter c.in-Some.days.now _ c.loop-meter.invariant
    c.in-Some.ensures.steps its c.in-Some-last_from.ensures.some

pub returns-in-None-clause-some : goal.returns-in-None-clause-some
returns-in-None-clause-some c =
    last_some c.args.kept.now c.args.stream.now c.args.day c.loop-meter.last c.loop-meter.from c.loop-meter.meter-iterator
    c.range-meter-items.ensures.ordered c.loop-meter.invariant
    (at_end (IsOf c.args.stream.now) _ c.in-None.ensures.steps.0)

pub returns-in-None-clause-none : goal.returns-in-None-clause-none
returns-in-None-clause-none c =
    last_none c.args.kept.now c.args.stream.now c.args.day c.loop-meter.last c.loop-meter.from c.loop-meter.meter-iterator
    c.range-meter-items.ensures.ordered c.loop-meter.invariant
    (at_end (IsOf c.args.stream.now) _ c.in-None.ensures.steps.0)

pub returns-then-ne-clause-some : goal.returns-then-ne-clause-some
returns-then-ne-clause-some c =
    last_some c.args.kept.now c.args.stream.now c.args.day c.loop-meter.last c.loop-meter.from c.loop-meter.meter-iterator
    c.range-meter-items.ensures.ordered c.loop-meter.invariant
    (at_other (IsOf c.args.stream.now) _ c.next.new.self (c.in-Some.meter.now, c.in-Some.days.now) c.in-Some.ensures.steps
    (search rules))

pub returns-then-ne-clause-none : goal.returns-then-ne-clause-none
returns-then-ne-clause-none c =
    last_none c.args.kept.now c.args.stream.now c.args.day c.loop-meter.last c.loop-meter.from c.loop-meter.meter-iterator
    c.range-meter-items.ensures.ordered c.loop-meter.invariant
    (at_other (IsOf c.args.stream.now) _ c.next.new.self (c.in-Some.meter.now, c.in-Some.days.now) c.in-Some.ensures.steps
    (search rules))

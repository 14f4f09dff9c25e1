use Rattle.mds_memory.proofs.Notes.{none_left}
use Rattle.mds_memory.proofs.StoredPeriods.{put_room, put_start, put_step, put_world}
use Rattle.mds_memory.proofs.stored_periods.put_periods.Goals as goal

pub loop-period-init : goal.loop-period-init
loop-period-init c =
    put_start c.args.periods.now c.args.more.items _ c.requires.room c.requires.ordered
    c.into_iter-period-iterator.ensures.into_iter_gives.0

pub unreachable-requires : goal.unreachable-requires
unreachable-requires c =
    put_room c.args.periods.now c.args.more.items _ c.next.new.self.rest.items c.loop-period.periods c.in-Some.period
    c.loop-period.invariant c.in-Some.ensures.steps.0 c.in_default.ensures.absent

pub loop-period-preserved-in-Ok : goal.loop-period-preserved-in-Ok
loop-period-preserved-in-Ok c =
    put_step c.args.periods.now c.args.more.items _ c.next.new.self.rest.items c.loop-period.periods c.insert.new.self
    c.in-Some.period c.loop-period.invariant c.requires.agrees c.in-Some.ensures.steps.0 c.in-Ok.ensures.entries
    c.insert.ensures.ordered

pub loop-period-preserved-in-Ok-2 : goal.loop-period-preserved-in-Ok-2
loop-period-preserved-in-Ok-2 c =
    put_step c.args.periods.now c.args.more.items _ c.next.new.self.rest.items c.loop-period.periods c.insert.new.self
    c.in-Some.period c.loop-period.invariant c.requires.agrees c.in-Some.ensures.steps.0 c.in-Ok.ensures.entries
    c.insert.ensures.ordered

pub loop-period-preserved-in-Ok-3 : goal.loop-period-preserved-in-Ok-3
loop-period-preserved-in-Ok-3 c =
    put_step c.args.periods.now c.args.more.items _ c.next.new.self.rest.items c.loop-period.periods c.insert.new.self
    c.in-Some.period c.loop-period.invariant c.requires.agrees c.in-Some.ensures.steps.0 c.in-Ok.ensures.entries
    c.insert.ensures.ordered

pub returns-clause-put : goal.returns-clause-put
returns-clause-put c =
    put_world c.args.periods.now c.args.more.items _ c.loop-period.periods c.loop-period.invariant
    (none_left _ _ c.loop-period.period-iterator.rest.ok.0 c.in-None.ensures.steps.0)

use Rattle.mds_memory.proofs.StoredDays.{put_room, put_start, put_step, put_theirs, put_world}
use Rattle.mds_memory.proofs.stored_days.put_days.Goals as goal

pub loop-place-init : goal.loop-place-init
loop-place-init c = record {
  put = put_start c.args.days.now c.args.changed _ c.requires.room c.into_iter-place-iterator.ensures.into_iter_gives.0;
  ordered = c.requires.theirs.0.ordered;
}

pub unreachable-requires : goal.unreachable-requires
unreachable-requires c = put_room _ _ _ _ _ _ _ c.loop-place.invariant.put c.in-Some.ensures.steps c.in_default.ensures.absent

pub loop-place-preserved-in-Ok : goal.loop-place-preserved-in-Ok
loop-place-preserved-in-Ok c = record {
  put = put_step _ _ _ _ _ _ _ _ c.loop-place.invariant.put c.in-Some.ensures.steps c.in-Ok.ensures.entries;
  ordered = c.insert.ensures.ordered;
}

pub loop-place-preserved-in-Ok-2 : goal.loop-place-preserved-in-Ok-2
loop-place-preserved-in-Ok-2 c = record {
  put = put_step _ _ _ _ _ _ _ _ c.loop-place.invariant.put c.in-Some.ensures.steps c.in-Ok.ensures.entries;
  ordered = c.insert.ensures.ordered;
}

pub returns-clause-theirs : goal.returns-clause-theirs
returns-clause-theirs c =
    put_theirs c.args.days.now c.args.changed c.loop-place.days _ c.loop-place.invariant.put c.requires.theirs.0 c.requires.theirs.1
    c.loop-place.invariant.ordered

pub returns-clause-put : goal.returns-clause-put
returns-clause-put c = λ w change.
    put_world c.args.days.now c.args.changed c.loop-place.days _ w c.in-None.ensures.steps.0 c.loop-place.invariant.put
    c.requires.theirs.0 c.requires.theirs.1 change

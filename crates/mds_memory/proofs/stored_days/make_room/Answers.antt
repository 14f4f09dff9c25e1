use Rattle.std.proofs.Common.{◌∙◌, refl}
use Rattle.mds_memory.proofs.StoredDays.{room_end, room_put, room_start, theirs_same}
use Rattle.mds_memory.proofs.stored_days.make_room.Goals as goal

pub loop-place-init : goal.loop-place-init
loop-place-init c =
    room_start c.args.days.now c.args.changed.now _ (c.into_iter-place-iterator.ensures.into_iter_gives ∙ c.keys-place-items.ensures.rest)

pub returns-in_err-add_place-clause-theirs : goal.returns-in_err-add_place-clause-theirs
returns-in_err-add_place-clause-theirs c = λ t. theirs_same _ _ c.in_err-add_place.ensures.err (c.loop-place.invariant.theirs t)

pub loop-place-preserved : goal.loop-place-preserved
loop-place-preserved c =
    room_put c.args.days.now c.args.changed.now c.loop-place.days c.add_place.new.days _ _ c.in-Some.place.now c.unknown-book.result _
    c.loop-place.invariant c.in-Some.ensures.steps refl c.in_ok-add_place.ensures.ok c.add_place.ensures.was_ordered
    c.in_ok-add_place.ensures.ordered c.unknown-book.ensures.of_day c.number.ensures.last c.unknown-book.ensures.empty

pub returns-clause-room : goal.returns-clause-room
returns-clause-room c = room_end c.args.days.now c.args.changed.now c.loop-place.days _ c.loop-place.invariant c.in-None.ensures.steps.0

use Rattle.std.proofs.Common.{◌++◌, map, refl}
use Rattle.mds_world.specs.Facts.Fact.{EventIs, HolidayIs}
use Rattle.mds_memory.specs.declared.stored_notes.Note.TheVariants.{Event, Holiday}
use Rattle.mds_memory.specs.Stored.{note_fact}
use Rattle.mds_memory.proofs.Notes.{begun, ended, moved, none_left}
use Rattle.mds_memory.proofs.stored_notes.notes_of.Goals as goal

pub loop-event-init : goal.loop-event-init
loop-event-init c =
    (λ i. map note_fact (c.in_ok-notes.ensures.items i) ++ map EventIs (c.into_iter-event-iterator.ensures.into_iter_gives.0 i))

pub loop-event-preserved : goal.loop-event-preserved
loop-event-preserved c = moved EventIs Event (λ _. refl) _ c.push.new.self.items _ c.next.new.self.rest.items c.in-Some.event _ c.in_ok-push.ensures.items c.in-Some.ensures.steps.0 c.loop-event.invariant

pub loop-day-init : goal.loop-day-init
loop-day-init c = begun EventIs HolidayIs c.loop-event.notes.items _ c.into_iter-day-iterator.result.rest.items c.args.holidays.items _ (none_left _ _ c.loop-event.event-iterator.rest.ok.0 c.in-None.ensures.steps.0) c.into_iter-day-iterator.ensures.into_iter_gives.0 c.loop-event.invariant

pub loop-day-preserved : goal.loop-day-preserved
loop-day-preserved c = moved HolidayIs Holiday (λ _. refl) _ c.push-in-loop-day.new.self.items _ c.next-in-loop-day.new.self.rest.items c.in-Some-day.day _ c.in_ok-push-2.ensures.items c.in-Some-day.ensures.steps.0 c.loop-day.invariant

pub returns : goal.returns
returns c = ended HolidayIs c.loop-day.notes.items _ _ (none_left _ _ c.loop-day.day-iterator.rest.ok.0 c.in-None-day.ensures.steps.0) c.loop-day.invariant

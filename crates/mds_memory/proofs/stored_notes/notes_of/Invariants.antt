use Rattle.std.proofs.Common.{◌≡◌, ◌++◌, map}
use Rattle.mds_world.specs.Facts.Fact.{EventIs, HolidayIs}
use Rattle.mds_memory.specs.Stored.{note_fact}
use Rattle.mds_memory.proofs.stored_notes.notes_of.Given as goal

abbrev pub invariant-loop-event : goal.invariant-loop-event
invariant-loop-event l =
    map note_fact l.notes.items ++ map EventIs l.event-iterator.rest.items ≡ map EventIs l.fn.events.items

abbrev pub invariant-loop-day : goal.invariant-loop-day
invariant-loop-day l =
    map note_fact l.notes.items ++ map HolidayIs l.day-iterator.rest.items
    ≡ map EventIs l.fn.events.items ++ map HolidayIs l.fn.holidays.items

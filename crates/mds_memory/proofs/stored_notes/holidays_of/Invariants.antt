use Rattle.mds_memory.proofs.Ranges.{AreHolidaysSoFar}
use Rattle.mds_memory.proofs.stored_notes.holidays_of.Given as goal

abbrev pub invariant-loop-note : goal.invariant-loop-note
invariant-loop-note l = AreHolidaysSoFar l.fn.notes l.days.items l.note-iterator

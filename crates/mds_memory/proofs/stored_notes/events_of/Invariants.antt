use Rattle.mds_memory.proofs.Ranges.{AreSoFar}
use Rattle.mds_memory.proofs.stored_notes.events_of.Given as goal

abbrev pub invariant-loop-note : goal.invariant-loop-note
invariant-loop-note l = AreSoFar l.fn.notes l.fn.stream l.fn.day l.events.items l.note-iterator

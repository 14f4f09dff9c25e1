use Rattle.std.proofs.Common.{◌↔◌, take}
use Rattle.mds_world.specs.Lists.{Member}
use Rattle.mds_memory.specs.declared.stored_notes.Note.{Note}
use Rattle.mds_memory.proofs.stored_notes.take_out.Given as goal

abbrev pub invariant-loop-note : goal.invariant-loop-note
invariant-loop-note l = (q : Note) → Member q l.notes.keys
    ↔ (Member q l.fn.notes.keys × (Member q (take l.note-index l.some) → ⊥))

use Rattle.mds_memory.proofs.Notes.{has}
use Rattle.mds_memory.proofs.stored_notes.has_note.Goals as goal

pub returns : goal.returns
returns c = has c.args.notes.now c.args.note.now _ c.contains.ensures

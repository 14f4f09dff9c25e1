use Rattle.std.proofs.Common.{subst}
use Rattle.std.proofs.lemmas.List.{take_all}
use Rattle.mds_memory.proofs.Keys.{AreWithout, out_more, removed}
use Rattle.mds_memory.proofs.NoteOrder.{exact, note_cmp, total}
use Rattle.mds_memory.proofs.stored_notes.take_out.Goals as goal

pub loop-note-preserved : goal.loop-note-preserved
loop-note-preserved c =
    out_more _ c.loop-note.notes.keys c.remove.new.self.keys _ _ _ c.loop-note-test.true c.note-item.is c.loop-note.invariant
    (removed note_cmp exact total c.loop-note.notes c.remove.new.self _ c.remove.ensures.updates.0)

pub returns : goal.returns
returns c = subst (AreWithout c.loop-note.notes.keys c.args.notes.now.keys) (take_all c.loop-note.note-index c.args.some.now c.loop-note-test.false) c.loop-note.invariant

use Rattle.mds_memory.proofs.Notes.{inserted}
use Rattle.mds_memory.proofs.stored_notes.insert_copy.Goals as goal

pub returns-clause-ok : goal.returns-clause-ok
returns-clause-ok c = inserted c.args.notes.now c.insert.new.self _ _ c.in_ok-copy.ensures c.in_ok-insert.ensures.updates.0

use Rattle.mds_memory.proofs.Notes.{taken_back}
use Rattle.mds_memory.proofs.memory.insert_both.Goals as goal

pub returns-in_default-clause-err : goal.returns-in_default-clause-err
returns-in_default-clause-err c = (
  c.in_default.ensures.err,
  taken_back c.args.notes.now c.insert_notes.new.notes c.take_out.new.notes c.args.more.now
      c.in_ok-insert_notes.ensures.ok c.take_out.ensures c.requires.notes.1,
)

use Rattle.mds_memory.proofs.Changed.{changed_close}
use Rattle.mds_memory.proofs.stored_days.close.Goals as goal

pub returns : goal.returns
returns c = λ w more. changed_close w more c.args.closed.now c.insert.new.self c.args.hand c.in_ok-insert.ensures.updates.0 c.insert.ensures.ordered

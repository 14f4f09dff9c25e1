use Rattle.std.proofs.Common.{◌≡◌, [], Err, ap, inl, inr}
use Rattle.mds_walk.proofs.Steps.{nothing_none, refusal_ends}
use Rattle.mds_walk.specs.declared.fault.TakeFault.TheVariants.{Memory}
use Rattle.mds_nem12.specs.Faults.{fault_of, nem12}
use Rattle.mds_nem12.proofs.feeding.read_pieces.Goals as goal

pub returns-in-Err-clause-answer : goal.returns-in-Err-clause-answer
unfolding fault_of
returns-in-Err-clause-answer c =
    refusal_ends nem12 _ c.in-Err.fault (c.in-Err.ensures.answer [] c.begin-reader.ensures.read (nothing_none nem12))

pub returns-in-Ok-clause-memory : goal.returns-in-Ok-clause-memory
returns-in-Ok-clause-memory c = λ e.
    inr (c.finish.ensures.memory _ (c.feed_pieces.ensures.fed [] c.begin-reader.ensures.read)
    (c.in-Ok.ensures.stays [] c.begin-reader.ensures.read c.begin-reader.ensures.fresh) e)

pub returns-in-Err-clause-memory : goal.returns-in-Err-clause-memory
returns-in-Err-clause-memory c = λ e.
    let is : c.in-Err.fault ≡ Memory = cc in
    inl (c.in-Err.ensures.memory [] c.begin-reader.ensures.read c.begin-reader.ensures.fresh (ap Err is))

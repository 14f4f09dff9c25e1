use Rattle.std.proofs.Common.{◌≡◌, [], Err, refl, ap, subst}
use Rattle.mds_walk.proofs.Steps.{lack_alone, refusal_ends}
use Rattle.mds_walk.specs.Answers.{IsRefusal}
use Rattle.mds_walk.specs.declared.fault.TakeFault.{TakeFault}
use Rattle.mds_walk.specs.declared.fault.TakeFault.TheVariants.{File, Memory}
use Rattle.mds_nem12.specs.Answers.{MayLackMemory}
use Rattle.mds_nem12.specs.Faults.{fault_of, nem12}
use Rattle.mds_nem12.proofs.Lacking.{err_is}
use Rattle.mds_nem12.proofs.files.read_nem12.Goals as goal

pub returns-in-Err-clause-fault : goal.returns-in-Err-clause-fault
unfolding fault_of
returns-in-Err-clause-fault c = λ fault e.
    let same : c.in-Err.fault ≡ File fault = cc in
    subst (λ (t : TakeFault). IsRefusal (fault_of c.args.text.now) t) same
    (refusal_ends nem12 c.args.text.now _ (c.in-Err.ensures.answer [] c.begin-reader.ensures.read))

pub returns-clause-memory : goal.returns-clause-memory
returns-clause-memory c = λ e.
    lack_alone MayLackMemory nem12 c.args.text.now (c.finish.ensures.memory c.args.text.now (c.feed.ensures.fed [] c.begin-reader.ensures.read)
    (c.in_default.ensures.stays [] c.begin-reader.ensures.read) e)

pub returns-in-Err-clause-memory : goal.returns-in-Err-clause-memory
returns-in-Err-clause-memory c = λ e.
    let is = err_is (Err c.in-Err.fault) c.in-Err.fault Memory refl e in
    c.in-Err.ensures.memory [] c.begin-reader.ensures.read c.begin-reader.ensures.fresh (ap Err is)

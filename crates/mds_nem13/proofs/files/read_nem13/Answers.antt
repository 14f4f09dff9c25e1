use Rattle.std.proofs.Common.{◌≡◌, [], Err, ap, subst}
use Rattle.mds_walk.proofs.Steps.{lack_alone, refusal_ends}
use Rattle.mds_walk.specs.Answers.{IsRefusal}
use Rattle.mds_walk.specs.declared.fault.TakeFault.{TakeFault}
use Rattle.mds_walk.specs.declared.fault.TakeFault.TheVariants.{File, Memory}
use Rattle.mds_nem13.specs.Answers.{MayLackMemory}
use Rattle.mds_nem13.specs.Faults.{fault_of, nem13}
use Rattle.mds_nem13.proofs.files.read_nem13.Goals as goal

pub returns-in-Err-clause-fault : goal.returns-in-Err-clause-fault
unfolding fault_of
returns-in-Err-clause-fault c = λ fault e.
    let same : c.in-Err.fault ≡ File fault = cc in
    subst (λ (t : TakeFault). IsRefusal (fault_of c.args.text.now) t) same
    (refusal_ends nem13 c.args.text.now _ (c.in-Err.ensures.answer [] c.new-feeder.ensures.fed))

pub returns-in-Err-clause-memory : goal.returns-in-Err-clause-memory
returns-in-Err-clause-memory c = λ e.
    let is : c.in-Err.fault ≡ Memory = cc in
    c.in-Err.ensures.memory [] c.new-feeder.ensures.fed c.new-feeder.ensures.fresh (ap Err is)

pub returns-in-Err-finish-clause-memory : goal.returns-in-Err-finish-clause-memory
returns-in-Err-finish-clause-memory c = λ e.
    let is : c.in-Err-finish.fault ≡ Memory = cc in
    lack_alone MayLackMemory nem13 c.args.text.now (c.in-Err-finish.ensures.memory c.args.text.now
    (c.feed.ensures.fed [] c.new-feeder.ensures.fed) (c.in_default.ensures.stays [] c.new-feeder.ensures.fed) (ap Err is))

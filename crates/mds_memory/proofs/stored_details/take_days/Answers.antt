use Rattle.mds_memory.proofs.StoredDetails.{none_there, unwritten}
use Rattle.mds_memory.proofs.stored_details.take_days.Goals as goal

pub returns-in-Some : goal.returns-in-Some
returns-in-Some c =
    unwritten c.args.kept.now (c.get_mut.follows.lender c.remove_days.new.days) c.args.some.now.meter c.in-Some.days.now
    c.remove_days.new.days c.in-Some.ensures.value c.get_mut.ensures.ordered
    (c.get_mut.follows.holds c.remove_days.new.days) c.args.some.now.days.items
    (rw c.deref.ensures.value at c.remove_days.ensures)

pub returns-in_default : goal.returns-in_default
returns-in_default c =
    none_there c.args.kept.now c.get_mut.follows.lender-at-none c.args.some.now.meter c.in_default.ensures.value
    c.get_mut.ensures.ordered c.get_mut.follows.holds-at-none c.args.some.now.days.items

use Rattle.std.proofs.Common.{ap, inl, inr, []}
use Rattle.std.proofs.lemmas.Result.{on_err_weaker, on_ok_weaker}
use Rattle.mds_world.proofs.Lists.{map_in}
use Rattle.mds_memory.specs.StoredDetails.{meter_on}
use Rattle.mds_memory.proofs.StoredDetails.{at_kept, days_of, first_days, written}
use Rattle.mds_memory.proofs.stored_details.insert_days.Goals as goal

pub add_days-requires : goal.add_days-requires
add_days-requires c = λ day m k.
    let more = c.args.more.now in
    c.requires (meter_on more.meter day) (map_in (meter_on more.meter) more.days.items day (rw c.deref.ensures.value at m))
    (at_kept c.args.kept.now (meter_on more.meter day) (rw (ap days_of c.in-Some.ensures.value) at k))

pub returns-in-Some-clause-ok : goal.returns-in-Some-clause-ok
returns-in-Some-clause-ok c =
    on_ok_weaker c.add_days.result
    (written c.args.kept.now (c.get_mut.follows.lender c.add_days.new.days) c.args.more.now.meter c.in-Some.days.now
    c.add_days.new.days c.in-Some.ensures.value c.get_mut.ensures.ordered (c.get_mut.follows.holds c.add_days.new.days)
    c.args.more.now.days.items)
    (rw c.deref.ensures.value at c.add_days.ensures.ok)

pub returns-in-Some-clause-err : goal.returns-in-Some-clause-err
returns-in-Some-clause-err c =
    on_err_weaker c.add_days.result
    (λ h. written c.args.kept.now (c.get_mut.follows.lender c.add_days.new.days) c.args.more.now.meter c.in-Some.days.now
    c.add_days.new.days c.in-Some.ensures.value c.get_mut.ensures.ordered (c.get_mut.follows.holds c.add_days.new.days) []
    (λ day. ((λ m. inl ((h day).0 m)), (λ e. elim e [ inl m ↦ (h day).1 m | inr z ↦ absurd z ]))))
    c.add_days.ensures.err

pub returns-clause-ok : goal.returns-clause-ok
returns-clause-ok c =
    first_days c.args.kept.now c.get_mut.follows.lender-at-none c.insert.new.self c.args.more.now c.in_ok-meter.meter
    c.in_ok-days.days c.get_mut.follows.holds-at-none c.in_default.ensures.value c.get_mut.ensures.ordered
    c.insert.ensures.ordered c.in_ok-meter.ensures (rw c.deref-2.ensures.value at c.in_ok-days.ensures)
    c.in_ok-insert.ensures.updates.0

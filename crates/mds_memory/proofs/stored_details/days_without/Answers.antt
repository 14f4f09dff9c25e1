use Rattle.std.proofs.Common.{ap, ◌∙◌}
use Rattle.std.proofs.lemmas.Result.{IfOk-weaker}
use Rattle.mds_memory.proofs.DaysWithout.{without}
use Rattle.mds_memory.proofs.StoredDetails.{days_of}
use Rattle.mds_memory.proofs.stored_details.days_without.Goals as goal

pub returns-in-Some : goal.returns-in-Some
returns-in-Some c =
    IfOk-weaker c.days_not_in.result _ _ (λ left lacks.
    without c.args.kept.now c.in_ok-meter.meter c.args.group.now c.in_ok-asked.asked c.in-Some.days.now left.items
    c.len.ensures.ordered c.in_ok-meter.ensures (rw c.deref.ensures.value at c.in_ok-asked.ensures)
    (ap days_of c.in-Some.ensures.value) lacks) c.days_not_in.ensures

pub returns : goal.returns
returns c =
    IfOk-weaker c.days_not_in-in-None.result _ _ (λ left lacks.
    without c.args.kept.now c.in_ok-meter.meter c.args.group.now c.in_ok-asked.asked c.new.result left.items
    c.len.ensures.ordered c.in_ok-meter.ensures (rw c.deref.ensures.value at c.in_ok-asked.ensures)
    (c.new.ensures.empty ∙ ap days_of c.in-None.ensures.value) lacks) c.days_not_in-in-None.ensures

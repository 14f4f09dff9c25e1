use Rattle.std.proofs.Common.{ap, rules}
use Rattle.mds_memory.proofs.Runs.{at_end, at_other, pass, step}
use Rattle.mds_memory.proofs.StoredPeriods.{IsOf, from, of_copy, period_at, period_of, periods_done}
use Rattle.mds_memory.proofs.stored_periods.periods_of.Goals as goal
use Rattle.mds_memory.proofs.stored_periods.periods_of.Goals.{in-None, in-Some+then-ne}

pub loop-key-preserved-in_default : goal.loop-key-preserved-in_default
loop-key-preserved-in_default c =
    let of : IsOf c.args.stream (c.in-Some.key.now, c.in-Some.kept.now) = search rules in
    pass period_at (IsOf c.args.stream) (from c.args.periods.now c.args.stream) _ c.next.new.self _
    (c.in-Some.key.now, c.in-Some.kept.now) c.loop-key.invariant c.in-Some.ensures.steps of
    (ap (period_of c.in-Some.key.now) c.in_default.is)

pub loop-key-preserved : goal.loop-key-preserved
loop-key-preserved c =
    let of : IsOf c.args.stream (c.in-Some.key.now, c.in-Some.kept.now) = search rules in
    step period_at (IsOf c.args.stream) (from c.args.periods.now c.args.stream) _ c.next.new.self _ c.push.new.self.items _
    (c.in-Some.key.now, c.in-Some.kept.now) c.loop-key.invariant c.in-Some.ensures.steps of
    (of_copy c.in-Some.key.now _ c.in-Some.kept.now _ _ c.in-Some-kept.is c.in_ok-try_clone.ensures.value
    c.in_ok-try_clone-2.ensures.value) c.in_ok-push.ensures.items

pub returns : goal.returns
returns c =
    periods_done c.args.periods.now c.args.stream _ c.loop-key.key-iterator c.range-key-items.ensures.ordered
    c.loop-key.invariant
    (elim c.match-next.branch [
      | in-None w ↦ at_end (IsOf c.args.stream) _ w.in-None.ensures.steps.0
      | in-Some+then-ne w ↦ at_other (IsOf c.args.stream) _ c.next.new.self (w.in-Some.key.now, w.in-Some.kept.now)
          w.in-Some.ensures.steps (search rules)
    ])

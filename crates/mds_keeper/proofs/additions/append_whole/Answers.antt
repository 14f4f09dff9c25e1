use Rattle.std.proofs.Common.{refl, arith, OnOk, IsErr, Ok, Err, Result}
use Rattle.mds_quantity.proofs.Front.{on_err_from}
use Rattle.mds_keeper.proofs.RowsMoved.{all_copied, length_whole, one_copied, part_copied, start_copied}
use Rattle.mds_keeper.proofs.additions.append_whole.Goals as goal

-- an error meets what is ensured of Ok
not_ok : {T E : Type 0} (r : Result T E) (P : Type 0) → IsErr r → OnOk r P
not_ok (Ok x) P h = absurd (cc (h))
not_ok (Err e) P h = tt

pub loop-i-init : goal.loop-i-init
loop-i-init c = start_copied _ _ _ _ _ c.in_ok-reserve.ensures.items

pub loop-i-preserved : goal.loop-i-preserved
loop-i-preserved c =
    one_copied _ _ _ _ _ _ c.loop-i.invariant (omega (arith, c.len-i-end.ensures.value)) _ c.in_ok-reading.ensures.value _ c.in_ok-push.ensures.items

pub returns-clause-done : goal.returns-clause-done
returns-clause-done c = all_copied _ _ _ _ _ _ c.loop-i.invariant (omega (arith, c.len-i-end.ensures.value))

pub returns-in_err-reserve-clause-memory : goal.returns-in_err-reserve-clause-memory
returns-in_err-reserve-clause-memory c =
    on_err_from c.from_residual.result _
    (omega (arith, length_whole c.args.length c.args.update 1 c.args.readings.now, c.len.ensures.value, c.in_err-reserve.ensures.full, c.args.rows.now.ok.1))

pub returns-in_err-reading-clause-kept : goal.returns-in_err-reading-clause-kept
returns-in_err-reading-clause-kept c =
    on_err_from c.from_residual-in_err-reading.result _ (part_copied _ _ _ _ _ _ c.loop-i.invariant _ refl)

pub returns-in_err-reading-clause-memory : goal.returns-in_err-reading-clause-memory
returns-in_err-reading-clause-memory c = on_err_from c.from_residual-in_err-reading.result _
    (omega (arith, length_whole c.args.length c.args.update 1 c.args.readings.now, c.len-i-end.ensures.value, c.loop-i-test.true))

pub returns-in_err-push-clause-kept : goal.returns-in_err-push-clause-kept
returns-in_err-push-clause-kept c =
    on_err_from c.from_residual-in_err-push.result _ (part_copied _ _ _ _ _ _ c.loop-i.invariant _ c.in_err-push.ensures.items)

pub returns-in_err-push-clause-memory : goal.returns-in_err-push-clause-memory
returns-in_err-push-clause-memory c = on_err_from c.from_residual-in_err-push.result _
    (omega (arith, length_whole c.args.length c.args.update 1 c.args.readings.now, c.len-i-end.ensures.value, c.loop-i-test.true))

pub returns-in_err-reading-clause-done : goal.returns-in_err-reading-clause-done
returns-in_err-reading-clause-done c = not_ok c.from_residual-in_err-reading.result _ c.from_residual-in_err-reading.ensures.0

pub returns-in_err-push-clause-done : goal.returns-in_err-push-clause-done
returns-in_err-push-clause-done c = not_ok c.from_residual-in_err-push.result _ c.from_residual-in_err-push.ensures.0

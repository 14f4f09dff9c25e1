use Rattle.std.proofs.Common.{◌≢◌, ◌+◌, [], ◌∷◌, IfSome, ap, arith, length, refl, subst, sym, take, take_all}
use Rattle.std.proofs.lemmas.Result.{IfOk-from_err}
use Rattle.sqlite_trees.proofs.ListLemmas.{all-append}
use Rattle.mds_pack_rows.specs.Batches.{SayDays, SaySome, SaysDay, said_by}
use Rattle.mds_pack_rows.proofs.BatchLemmas.{say_more}
use Rattle.mds_pack_rows.proofs.batches.pack_new_days.Goals as goal

pub loop-added-preserved : goal.loop-added-preserved
loop-added-preserved c =
    let days = c.args.days.now in
    let at = c.loop-added.added-index in
    let says = subst (λ o. IfSome o (λ row. SaysDay row c.added-item.result)) c.in-Some.is c.in_ok-row.ensures.says in
    let some = subst (λ o. IfSome o (λ row. said_by row ≢ [])) c.in-Some.is c.in_ok-row.ensures.some in
    record {
      len = omega (arith, c.loop-added.invariant.len, c.in_ok-push.ensures.len);
      says = subst (λ rows. SayDays rows (take (at + 1) days)) (sym c.in_ok-push.ensures.items)
          (say_more c.loop-added.rows.items days at c.in-Some.row c.added-item.result (omega arith) c.added-item.is c.loop-added.invariant.says says);
      some = subst SaySome (sym c.in_ok-push.ensures.items)
          (all-append (λ row. said_by row ≢ []) c.loop-added.rows.items (c.in-Some.row ∷ []) c.loop-added.invariant.some (some, tt));
    }

pub returns-in_err-rows-clause-len : goal.returns-in_err-rows-clause-len
returns-in_err-rows-clause-len c = IfOk-from_err c.from_residual.result _ c.from_residual.ensures.0

pub returns-in_err-rows-clause-says : goal.returns-in_err-rows-clause-says
returns-in_err-rows-clause-says c = IfOk-from_err c.from_residual.result _ c.from_residual.ensures.0

pub returns-in_err-rows-clause-some : goal.returns-in_err-rows-clause-some
returns-in_err-rows-clause-some c = IfOk-from_err c.from_residual.result _ c.from_residual.ensures.0

pub returns-in_err-row-clause-len : goal.returns-in_err-row-clause-len
returns-in_err-row-clause-len c = IfOk-from_err c.from_residual-in_err-row.result _ c.from_residual-in_err-row.ensures.0

pub returns-in_err-row-clause-says : goal.returns-in_err-row-clause-says
returns-in_err-row-clause-says c = IfOk-from_err c.from_residual-in_err-row.result _ c.from_residual-in_err-row.ensures.0

pub returns-in_err-row-clause-some : goal.returns-in_err-row-clause-some
returns-in_err-row-clause-some c = IfOk-from_err c.from_residual-in_err-row.result _ c.from_residual-in_err-row.ensures.0

pub returns-in_err-push-clause-len : goal.returns-in_err-push-clause-len
returns-in_err-push-clause-len c = IfOk-from_err c.from_residual-in_err-push.result _ c.from_residual-in_err-push.ensures.0

pub returns-in_err-push-clause-says : goal.returns-in_err-push-clause-says
returns-in_err-push-clause-says c = IfOk-from_err c.from_residual-in_err-push.result _ c.from_residual-in_err-push.ensures.0

pub returns-in_err-push-clause-some : goal.returns-in_err-push-clause-some
returns-in_err-push-clause-some c = IfOk-from_err c.from_residual-in_err-push.result _ c.from_residual-in_err-push.ensures.0

pub returns-in_default-clause-len : goal.returns-in_default-clause-len
returns-in_default-clause-len c = tt

pub returns-in_default-clause-says : goal.returns-in_default-clause-says
returns-in_default-clause-says c = tt

pub returns-in_default-clause-some : goal.returns-in_default-clause-some
returns-in_default-clause-some c = tt

pub loop-added-init : goal.loop-added-init
loop-added-init c =
    let none = c.in_ok-rows.ensures.items in
    record {
      len = ap length none;
      says = subst (λ rows. SayDays rows []) (sym none) refl;
      some = subst SaySome (sym none) tt;
    }

pub returns-clause-len : goal.returns-clause-len
returns-clause-len c = omega (arith, c.loop-added.invariant.len)

pub returns-clause-says : goal.returns-clause-says
returns-clause-says c =
    subst (SayDays c.loop-added.rows.items) (take_all c.loop-added.added-index c.args.days.now (omega arith)) c.loop-added.invariant.says

pub returns-clause-some : goal.returns-clause-some
returns-clause-some c = c.loop-added.invariant.some

use Rattle.std.proofs.Common.{length, refl, sym, ap, ◌∙◌, arith}
use Rattle.std.proofs.lemmas.List.{nil_from_length}
use Rattle.mds_quantity.proofs.Front.{on_err_from}
use Rattle.mds_keeper.proofs.RowsMoved.{all_moved, moved_on, part_moved, some_moved, start_moved}
use Rattle.mds_keeper.proofs.additions.append_each.Goals as goal

pub loop-row-init : goal.loop-row-init
loop-row-init c =
    let gives = c.into_iter-row-iterator.ensures.into_iter_gives in
    record { moved = start_moved _ _ _ _ refl gives.0; len = gives.1 ∙ c.args.more.ok.0 ∙ ap length (sym gives.0) }

pub loop-row-preserved : goal.loop-row-preserved
loop-row-preserved c =
    let s = c.in-Some.ensures.steps in
    let e = ap length s.0 in
    record {
      moved = moved_on _ _ _ _ c.loop-row.invariant.moved _ _ s.0 _ c.in_ok-push.ensures.items;
      len = omega (arith, e, s.1, c.loop-row.invariant.len);
    }

pub returns-clause-done : goal.returns-clause-done
returns-clause-done c =
    all_moved _ _ _ _ c.loop-row.invariant.moved (nil_from_length _ (sym c.loop-row.invariant.len ∙ c.in-None.ensures.steps.0))

pub returns-in_err-push-clause-kept : goal.returns-in_err-push-clause-kept
returns-in_err-push-clause-kept c =
    on_err_from c.from_residual.result _ (part_moved _ _ _ _ c.loop-row.invariant.moved _ c.in_err-push.ensures.items)

pub returns-in_err-push-clause-memory : goal.returns-in_err-push-clause-memory
returns-in_err-push-clause-memory c =
    on_err_from c.from_residual.result _ (some_moved _ _ _ _ c.loop-row.invariant.moved _ _ c.in-Some.ensures.steps.0)

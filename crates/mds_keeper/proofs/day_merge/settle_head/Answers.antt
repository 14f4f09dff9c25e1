use Rattle.std.proofs.Common.{refl, sym, ◌∙◌}
use Rattle.mds_quantity.proofs.Front.{on_err_from}
use Rattle.mds_world.specs.Facts.{head_at}
use Rattle.mds_keeper.proofs.Settled.{first_gained, further_gained, length_tells, no_head, none_gained, nothing_put}
use Rattle.mds_keeper.proofs.day_merge.settle_head.Goals as goal

pub returns-then-is_some-clause-ok : goal.returns-then-is_some-clause-ok
returns-then-is_some-clause-ok c =
    none_gained _ _ _ _ (no_head c.args.book.now c.args.unit c.args.update c.args.length
    (length_tells c.args.book.now c.args.update _ c.length_under.ensures ∙ sym c.if-is_some.ensures)) refl

pub returns-then-is_new_day-clause-ok : goal.returns-then-is_new_day-clause-ok
returns-then-is_new_day-clause-ok c =
    first_gained c.args.book.now c.args.unit c.args.update c.args.length _ (record c.args.additions.now { new_days = c.push.new.self })
    (c.if-is_some.ensures ∙ sym (length_tells c.args.book.now c.args.update _ c.length_under.ensures)) _
    (λ i. head_at (c.stream.ensures i) (c.day.ensures i) c.args.update c.args.length c.args.unit) _ c.if-is_new_day.true c.in_ok-push.ensures.items
    refl refl refl refl refl refl refl

pub returns-clause-ok : goal.returns-clause-ok
returns-clause-ok c =
    further_gained c.args.book.now c.args.unit c.args.update c.args.length _ (record c.args.additions.now { heads = c.push-2.new.self })
    (c.if-is_some.ensures ∙ sym (length_tells c.args.book.now c.args.update _ c.length_under.ensures)) _
    (λ i. head_at (c.stream.ensures i) (c.day.ensures i) c.args.update c.args.length c.args.unit) _ c.if-is_new_day.false c.in_ok-push-2.ensures.items
    refl refl refl refl refl refl refl

pub returns-in_err-push-clause-kept : goal.returns-in_err-push-clause-kept
returns-in_err-push-clause-kept c =
    on_err_from c.from_residual.result _
    (nothing_put c.args.additions.now (record c.args.additions.now { new_days = c.push.new.self }) c.in_err-push.ensures.items
    refl refl refl refl refl refl refl)

pub returns-in_err-push-2-clause-kept : goal.returns-in_err-push-2-clause-kept
returns-in_err-push-2-clause-kept c =
    on_err_from c.from_residual-in_err-push-2.result _
    (nothing_put c.args.additions.now (record c.args.additions.now { heads = c.push-2.new.self }) refl c.in_err-push-2.ensures.items
    refl refl refl refl refl refl)

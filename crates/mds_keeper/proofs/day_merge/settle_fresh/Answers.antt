use Rattle.std.proofs.Common.{ap}
use Rattle.mds_quantity.proofs.Front.{on_err_from}
use Rattle.mds_keeper.specs.DayMergeSteps.{claimed_entries}
use Rattle.mds_keeper.proofs.Settled.{both_settled, first_entry, first_in, first_new, gone_on, none_claimed, none_fresh, none_held, on_and_on, other_entries, others_in}
use Rattle.mds_keeper.proofs.day_merge.settle_fresh.Goals as goal

pub returns-then-fresh-eq0-clause-ok : goal.returns-then-fresh-eq0-clause-ok
returns-then-fresh-eq0-clause-ok c = none_fresh c.args.book.now _ _ _ _ _ _ c.requires.some c.requires.counts c.if-fresh-eq0.true

pub returns-in_default-clause-ok : goal.returns-in_default-clause-ok
returns-in_default-clause-ok c = none_claimed c.args.book.now _ _ _ _ (c.requires.none c.in_default.is)

pub returns-in_default-first-clause-ok : goal.returns-in_default-first-clause-ok
returns-in_default-first-clause-ok c =
    none_claimed c.args.book.now _ _ _ _ (ap (claimed_entries c.args.book.now) (c.into_parts-first.ensures.none c.in_default-first.is))

pub settle_update-requires-clause-whole : goal.settle_update-requires-clause-whole
settle_update-requires-clause-whole c =
    c.requires.whole _ (first_entry c.args.book.now c.in-Some-first.first _ c.in-Some-first.is _ _ c.into_parts-first.ensures.value)

pub settle_update-requires-clause-some : goal.settle_update-requires-clause-some
settle_update-requires-clause-some c =
    c.requires.some _ (first_entry c.args.book.now c.in-Some-first.first _ c.in-Some-first.is _ _ c.into_parts-first.ensures.value)

pub settle_update-requires-clause-kept : goal.settle_update-requires-clause-kept
settle_update-requires-clause-kept c =
    c.requires.kept _ _ (first_in c.args.book.now c.in-Some-first.first _ c.in-Some-first.is _ _ c.into_parts-first.ensures.value)

pub settle_update-requires-clause-new : goal.settle_update-requires-clause-new
settle_update-requires-clause-new c = λ are.
    (first_new c.args.book.now c.in-Some-first.first _ c.in-Some-first.is _ _ c.into_parts-first.ensures.value
    (none_held _ _ _ _ c.requires.counts are)).0

pub settle_others-requires-clause-whole : goal.settle_others-requires-clause-whole
settle_others-requires-clause-whole c = λ entry m.
    c.requires.whole entry (other_entries c.args.book.now c.in-Some-first.first _ c.in-Some-first.is _ _ c.into_parts-first.ensures.value entry m)

pub settle_others-requires-clause-some : goal.settle_others-requires-clause-some
settle_others-requires-clause-some c = λ entry m.
    c.requires.some entry (other_entries c.args.book.now c.in-Some-first.first _ c.in-Some-first.is _ _ c.into_parts-first.ensures.value entry m)

pub settle_others-requires-clause-kept : goal.settle_others-requires-clause-kept
settle_others-requires-clause-kept c = λ update kept m.
    c.requires.kept update kept
    (others_in c.args.book.now c.in-Some-first.first _ c.in-Some-first.is _ _ c.into_parts-first.ensures.value (update, kept) m)

pub settle_others-requires-clause-new : goal.settle_others-requires-clause-new
settle_others-requires-clause-new c = λ are.
    (first_new c.args.book.now c.in-Some-first.first _ c.in-Some-first.is _ _ c.into_parts-first.ensures.value
    (none_held _ _ _ _ c.requires.counts are)).1

pub returns-clause-ok : goal.returns-clause-ok
returns-clause-ok c =
    both_settled c.args.book.now c.in-Some-first.first _ c.in-Some-first.is _ _ c.into_parts-first.ensures.value _ c.in-Some.unit c.in-Some.is
    _ _ _ _ c.requires.new_day c.in_ok-settle_update.ensures.ok c.in_ok-settle_others.ensures.ok

pub returns-in_err-settle_others-clause-kept : goal.returns-in_err-settle_others-clause-kept
returns-in_err-settle_others-clause-kept c =
    on_err_from c.from_residual-in_err-settle_others.result _
    (on_and_on _ _ _ (gone_on c.in_ok-settle_update.ensures.ok) c.in_err-settle_others.ensures.kept)

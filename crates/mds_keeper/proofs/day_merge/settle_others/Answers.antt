use Rattle.std.proofs.Common.{ap, ◌∙◌}
use Rattle.mds_quantity.proofs.Front.{on_err_from}
use Rattle.mds_keeper.specs.Claims.{held_all}
use Rattle.mds_keeper.specs.DayMergeSteps.{claimed_entries}
use Rattle.mds_keeper.proofs.Settled.{end_settled, entry_settled, gone_on, here_settled, new_update, on_and_on, one_settled, start_settled}
use Rattle.mds_keeper.proofs.day_merge.settle_others.Goals as goal

pub loop-update-init : goal.loop-update-init
loop-update-init c = record {
  settled = start_settled _ _ _ _ _ c.into_iter-update-iterator.ensures.into_iter_gives.0;
  new = λ are. ap (λ l. held_all c.args.book.now (claimed_entries c.args.book.now l)) c.into_iter-update-iterator.ensures.into_iter_gives.0
      ∙ c.requires.new are;
}

pub settle_update-requires-clause-whole : goal.settle_update-requires-clause-whole
settle_update-requires-clause-whole c =
    c.requires.whole _ (entry_settled _ _ _ _ _ _ _ c.in-Some.update c.in-Some.kept c.loop-update.invariant.settled c.in-Some.ensures.steps)

pub settle_update-requires-clause-some : goal.settle_update-requires-clause-some
settle_update-requires-clause-some c =
    c.requires.some _ (entry_settled _ _ _ _ _ _ _ c.in-Some.update c.in-Some.kept c.loop-update.invariant.settled c.in-Some.ensures.steps)

pub settle_update-requires-clause-kept : goal.settle_update-requires-clause-kept
settle_update-requires-clause-kept c =
    c.requires.kept _ c.in-Some.kept
    (here_settled _ _ _ _ _ _ _ c.in-Some.update c.in-Some.kept c.loop-update.invariant.settled c.in-Some.ensures.steps)

pub settle_update-requires-clause-new : goal.settle_update-requires-clause-new
settle_update-requires-clause-new c = λ are.
    (new_update _ _ c.in-Some.update c.in-Some.kept _ c.in-Some.ensures.steps (c.loop-update.invariant.new are)).0

pub loop-update-preserved : goal.loop-update-preserved
loop-update-preserved c = record {
  settled = one_settled _ _ _ _ _ _ _ c.in-Some.update c.in-Some.kept c.loop-update.invariant.settled c.in-Some.ensures.steps
      _ c.in_ok-settle_update.ensures.ok;
  new = λ are. (new_update _ _ c.in-Some.update c.in-Some.kept _ c.in-Some.ensures.steps (c.loop-update.invariant.new are)).1;
}

pub returns-clause-ok : goal.returns-clause-ok
returns-clause-ok c = end_settled _ _ _ _ _ _ c.loop-update.invariant.settled c.in-None.ensures.steps.0

pub returns-in_err-settle_update-clause-kept : goal.returns-in_err-settle_update-clause-kept
returns-in_err-settle_update-clause-kept c =
    on_err_from c.from_residual.result _ (on_and_on _ _ _ (gone_on c.loop-update.invariant.settled.gained) c.in_err-settle_update.ensures.kept)

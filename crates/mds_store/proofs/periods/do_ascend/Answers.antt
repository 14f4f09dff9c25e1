use Rattle.std.proofs.Common.{rules}
use Rattle.std.proofs.lemmas.List.Sorted.{answers_always}
use Rattle.mds_store.proofs.Ascending.{ascends}
use Rattle.mds_store.proofs.PeriodLemmas.{IsBefore, before_is, chain, comes_before, not_before}
use Rattle.mds_store.proofs.periods.do_ascend.Goals as goal

pub returns : goal.returns
returns c =
    ascends IsBefore chain comes_before before_is not_before c.args.periods.now c.is_sorted_by.result
    (c.is_sorted_by.ensures.cases comes_before (answers_always _ _ _ (λ f a r g h. search rules)))

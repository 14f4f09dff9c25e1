use Rattle.std.proofs.Common.{rules}
use Rattle.std.proofs.lemmas.List.Sorted.{answers_always}
use Rattle.mds_keeper.specs.BookOrder.{comes_before}
use Rattle.mds_keeper.proofs.BookRowsMade.{ascend_is}
use Rattle.mds_keeper.proofs.day_book.do_ascend.Goals as goal

pub returns : goal.returns
returns c = ascend_is c.args.rows.now c.is_sorted_by.result
    (c.is_sorted_by.ensures.cases comes_before (answers_always _ _ _ (λ f a r g h. search rules)))

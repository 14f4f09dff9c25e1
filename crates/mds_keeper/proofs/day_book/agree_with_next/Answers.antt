use Rattle.std.proofs.Common.{rules}
use Rattle.std.proofs.lemmas.List.Sorted.{answers_always}
use Rattle.mds_keeper.specs.BookOrder.{agrees}
use Rattle.mds_keeper.proofs.RowsByUpdate.{lengths_told}
use Rattle.mds_keeper.proofs.day_book.agree_with_next.Goals as goal

pub returns : goal.returns
returns c = lengths_told c.args.rows.now c.requires c.is_sorted_by.result
    (c.is_sorted_by.ensures.cases agrees (answers_always _ _ _ (λ f a r g h. search rules)))

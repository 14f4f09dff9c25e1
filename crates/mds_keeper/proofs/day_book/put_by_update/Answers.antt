use Rattle.std.proofs.Common.{rules}
use Rattle.std.proofs.lemmas.List.Sorted.{answers_always}
use Rattle.mds_keeper.specs.BookOrder.{is_earlier}
use Rattle.mds_keeper.proofs.BookRowsMade.{moved}
use Rattle.mds_keeper.proofs.RowsByUpdate.{by_update, update_ranks}
use Rattle.mds_keeper.proofs.day_book.put_by_update.Goals as goal

pub returns-clause-members : goal.returns-clause-members
returns-clause-members c = moved _ _ c.sort_unstable_by.ensures.permutation

pub returns-clause-sorted : goal.returns-clause-sorted
returns-clause-sorted c =
    by_update _ (c.sort_unstable_by.ensures.sorted is_earlier update_ranks (answers_always _ _ _ (λ f a r g h. search rules)))

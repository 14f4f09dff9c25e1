use Rattle.std.proofs.Common.{subst}
use Rattle.std.specs.Bool.{MatchBool}
use Rattle.mds_keeper.specs.BookRows.{OneLength, TwoLengths}
use Rattle.mds_keeper.proofs.RowsByUpdate.{lengths_before}
use Rattle.mds_keeper.proofs.day_book.have_one_length.Goals as goal

pub returns-then-are_of_one_length-clause-lengths : goal.returns-then-are_of_one_length-clause-lengths
returns-then-are_of_one_length-clause-lengths c = subst OneLength c.deref.ensures.value (c.are_of_one_length.ensures c.if-are_of_one_length.true)

pub returns-clause-lengths : goal.returns-clause-lengths
returns-clause-lengths c =
    lengths_before _ c.put_by_update.new.rows.items c.put_by_update.ensures.members c.agree_with_next.result
    (subst (λ rows. MatchBool c.agree_with_next.result (OneLength rows) (TwoLengths rows)) c.deref-2.ensures.value c.agree_with_next.ensures)

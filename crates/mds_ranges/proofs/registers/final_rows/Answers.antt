use Rattle.std.proofs.Common.{subst}
use Rattle.std.proofs.lemmas.List.{drop_all}
use Rattle.mds_ranges.proofs.Ranged.{FinalsOnWay, books_left, finals_end, finals_on}
use Rattle.mds_ranges.proofs.registers.final_rows.Goals as goal

pub loop-book-preserved : goal.loop-book-preserved
loop-book-preserved c = λ w s first last are.
    finals_on w s first last c.book-item.result _ c.loop-book.rows.items c.add_finals.new.rows.items
    (subst (λ books. FinalsOnWay w s first last books c.loop-book.rows.items)
    (books_left c.args.books.now c.loop-book.book-index c.book-item.result c.loop-book-test.true c.book-item.is)
    (c.loop-book.invariant w s first last are))
    c.in_ok-add_finals.ensures

pub returns : goal.returns
returns c = λ w s first last are.
    finals_end w s first last _ c.loop-book.rows.items
    (drop_all c.loop-book.book-index c.args.books.now c.loop-book-test.false) (c.loop-book.invariant w s first last are)

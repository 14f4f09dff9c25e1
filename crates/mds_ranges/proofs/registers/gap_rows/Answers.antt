use Rattle.std.proofs.Common.{◌∙◌, arith}
use Rattle.std.proofs.lemmas.List.{drop_all}
use Rattle.mds_ranges.proofs.Ranged.{books_left, gaps_begin, gaps_done, gaps_next}
use Rattle.mds_ranges.proofs.registers.gap_rows.Goals as goal

pub loop-book-init : goal.loop-book-init
loop-book-init c =
    let n = c.number_of-from.ensures in
    record {
      fits = omega (arith, n.value, n.last);
      rows = λ w s are. gaps_begin w s _ _ _ _ _ n.value c.new-rows.ensures.items are;
    }

pub loop-book-preserved : goal.loop-book-preserved
loop-book-preserved c =
    let n = c.number_of-day.ensures in
    record {
      fits = omega (arith, n.value, n.last);
      rows = λ w s are. gaps_next w s _ _ c.loop-book.from _ c.book-item.result _ _ _ _ _
          (books_left c.args.books.now c.loop-book.book-index c.book-item.result c.loop-book-test.true c.book-item.is)
          (n.value ∙ c.day.ensures) c.in_ok-add_unknown.ensures c.in_ok-add_gaps.ensures
          (c.loop-book.invariant.rows w s are);
    }

pub returns : goal.returns
returns c = λ w s are.
    gaps_done w s _ _ c.loop-book.from _ _ _ _
    (drop_all c.loop-book.book-index c.args.books.now c.loop-book-test.false) c.number_of.ensures.value
    c.in_ok-add_unknown-2.ensures (c.loop-book.invariant.rows w s are)

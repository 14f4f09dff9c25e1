use Rattle.std.proofs.Common.{◌≡◌, ◌∙◌, rules, subst, sym}
use Rattle.mds_world.specs.Facts.{key_at}
use Rattle.mds_world.specs.Facts.Fact.{VersionIs}
use Rattle.mds_world.specs.Sets.{◌∈◌}
use Rattle.mds_keeper.specs.Books.{book_world}
use Rattle.mds_keeper.proofs.Rows.{in_seconds, none_more, no_row, row_found}
use Rattle.mds_keeper.proofs.day_book.row_under.Goals as goal

pub returns-then-seconds : goal.returns-then-seconds
returns-then-seconds c = λ book is.
    let same : c.row-item.result.1.update ≡ c.args.update =
    in_seconds _ _ _ _ c.seconds.ensures.last c.seconds-in-loop-row.ensures.last c.seconds.ensures.value c.seconds-in-loop-row.ensures.value c.if-seconds.true in
    record {
      some = (
        c.lent.ensures.0 ∙ same,
        subst (λ reading. VersionIs (key_at book.stream book.day c.lent.result.length c.args.interval c.args.update) reading ∈ book_world book)
            (sym c.lent.ensures.2)
            (subst (λ n. VersionIs (key_at book.stream book.day n c.args.interval c.args.update) c.row-item.result.1.reading ∈ book_world book)
            (sym c.lent.ensures.1) (row_found _ _ _ _ _ (c.rows_at-row-items.ensures book is) c.loop-row.row-index
            c.row-item.result c.loop-row-test.true c.row-item.is c.args.update same)),
      );
      none = tt;
    }

pub loop-row-preserved : goal.loop-row-preserved
loop-row-preserved c =
    none_more _ _ _ c.row-item.result c.loop-row-test.true c.row-item.is (λ e. c.if-seconds.false (search (rules, e, c.seconds.ensures, c.seconds-in-loop-row.ensures)))
    c.loop-row.invariant

pub returns : goal.returns
returns c = λ book is. record {
  some = tt;
  none = no_row _ _ _ _ _ (c.rows_at-row-items.ensures book is) c.loop-row.row-index c.loop-row-test.false c.args.update c.loop-row.invariant;
}

use Rattle.std.proofs.Common.{subst, sym}
use Rattle.std.proofs.lemmas.List.{take_all}
use Rattle.std.proofs.lemmas.List.Elements.{All-more}
use Rattle.std.specs.List.{All}
use Rattle.sqlite_value.specs.Order.{Row}
use Rattle.mds_commit.specs.Shown.{IsDetailRow, IsWritten}
use Rattle.mds_commit.proofs.querying.are_detail_rows.Goals as goal

pub loop-i-preserved : goal.loop-i-preserved
loop-i-preserved c =
    All-more (λ row. IsDetailRow row) c.args.rows.now c.loop-i.i c.index-rows-i.result c.loop-i-test.true c.loop-i.invariant
    (subst (λ row. IsDetailRow row) c.index-rows-i.is (c.is_detail_row-is_lawful.ensures.yes c.if-not-is_lawful.false))

pub returns-clause-yes : goal.returns-clause-yes
returns-clause-yes c = λ t.
    subst (λ rows. All (λ (row : Row). IsDetailRow row) rows)
    (take_all c.loop-i.i c.args.rows.now c.loop-i-test.false) c.loop-i.invariant

pub returns-then-not-is_lawful-clause-no : goal.returns-then-not-is_lawful-clause-no
returns-then-not-is_lawful-clause-no c = λ all.
    let it : IsWritten c.index-rows-i.result =
    subst IsWritten (sym c.index-rows-i.is) (all c.loop-i.i c.index-rows-i.result c.loop-i-test.true) in
    (rw c.if-not-is_lawful.true at c.is_detail_row-is_lawful.ensures.no) it.0 it.1 it.2

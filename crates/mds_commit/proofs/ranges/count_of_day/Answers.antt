use Rattle.std.proofs.Common.{◌≡◌, subst, ap, ◌∙◌}
use Rattle.sqlite_value.specs.Order.{column}
use Rattle.std.proofs.lemmas.List.Elements.{All-more}
use Rattle.mds_tables.specs.RowFacts.{natural_at}
use Rattle.mds_commit.proofs.InOrder.{next_is, no_next}
use Rattle.mds_commit.proofs.ranges.count_of_day.Goals as goal

pub loop-i-preserved : goal.loop-i-preserved
loop-i-preserved c =
    All-more (λ row. natural_at row 2 ≡ c.args.day) c.args.rows.now c.loop-i.i c.index-rows-i.result c.loop-i-test.true
    c.loop-i.invariant
    (subst (λ row. natural_at row 2 ≡ c.args.day) c.index-rows-i.is (c.is_of_day-is_alike.ensures.yes c.if-not-is_alike.false))

pub returns-then-not-is_alike-clause-next : goal.returns-then-not-is_alike-clause-next
returns-then-not-is_alike-clause-next c = λ row later is here.
    let same : c.index-rows-i.result ≡ row = next_is c.args.rows.now c.loop-i.i c.index-rows-i.result row later c.index-rows-i.is is in
    (rw c.if-not-is_alike.true at c.is_of_day-is_alike.ensures.no) (ap (λ r. column r 2) same ∙ here)

pub returns-clause-next : goal.returns-clause-next
returns-clause-next c = λ row later is here. no_next c.args.rows.now row later is

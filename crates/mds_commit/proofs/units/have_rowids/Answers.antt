use Rattle.std.proofs.Common.{◌≡◌, IsTrue, false, rules, subst}
use Rattle.std.specs.List.{AllByRecursion}
use Rattle.sqlite_sql.specs.Ops.{is_null}
use Rattle.sqlite_value.specs.Order.{Row, column}
use Rattle.mds_tables.proofs.MemberLemmas.{all_has}
use Rattle.mds_commit.proofs.UnitAsking.{asked_no, asked_so}
use Rattle.mds_commit.proofs.units.have_rowids.Goals as goal

pub returns-then-not-are_numbered-clause-asks : goal.returns-then-not-are_numbered-clause-asks
returns-then-not-are_numbered-clause-asks g c = asked_no c.in_ok-rows.ensures.asks _

pub returns-clause-asks : goal.returns-clause-asks
returns-clause-asks g c =
    let all : IsTrue c.are_numbered.result = search rules in
    let each = subst (λ rows. AllByRecursion (λ (row : Row). is_null (column row 0) ≡ false) rows) c.deref.ensures.value (c.are_numbered.ensures all) in
    asked_so c.in_ok-rows.ensures.asks tt (λ trees tells row m.
    let it = tells row m in
    it.2 (all_has (λ (row : Row). is_null (column row 0) ≡ false) c.in_ok-rows.rows.items it.0 each it.1))

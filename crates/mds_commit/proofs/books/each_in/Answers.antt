use Rattle.std.proofs.Common.{[], arith, subst, sym, take}
use Rattle.std.proofs.lemmas.List.{take_all}
use Rattle.std.proofs.lemmas.Result.{IfOk-from_err}
use Rattle.mds_commit.specs.FormRows.{AreUnder}
use Rattle.mds_commit.proofs.BookLemmas.{next_row, none_under}
use Rattle.mds_commit.proofs.books.each_in.Goals as goal

pub loop-i-preserved : goal.loop-i-preserved
loop-i-preserved c =
    next_row c.args.forms.now c.args.packs.now c.loop-i.i c.index-forms-i.result c.index-packs-i.result c.loop-i.versions.items
    c.add_row.new.versions.items (omega arith) c.loop-i-test.true c.index-forms-i.is c.index-packs-i.is c.loop-i.invariant c.in_ok-add_row.ensures

pub returns-then-forms-packs-clause-under : goal.returns-then-forms-packs-clause-under
returns-then-forms-packs-clause-under c = tt

pub returns-then-forms-packs-clause-paired : goal.returns-then-forms-packs-clause-paired
returns-then-forms-packs-clause-paired c = tt

pub loop-i-init : goal.loop-i-init
loop-i-init c = subst (AreUnder [] []) (sym c.new-versions.ensures.items) none_under

pub returns-in_err-add_row-clause-under : goal.returns-in_err-add_row-clause-under
returns-in_err-add_row-clause-under c = IfOk-from_err c.from_residual.result _ c.from_residual.ensures.0

pub returns-in_err-add_row-clause-paired : goal.returns-in_err-add_row-clause-paired
returns-in_err-add_row-clause-paired c = IfOk-from_err c.from_residual.result _ c.from_residual.ensures.0

pub returns-clause-under : goal.returns-clause-under
returns-clause-under c =
    subst (λ rows. AreUnder rows c.args.packs.now c.loop-i.versions.items) (take_all c.loop-i.i c.args.forms.now (omega arith))
    (subst (λ rows. AreUnder (take c.loop-i.i c.args.forms.now) rows c.loop-i.versions.items) (take_all c.loop-i.i c.args.packs.now c.loop-i-test.false)
    c.loop-i.invariant)

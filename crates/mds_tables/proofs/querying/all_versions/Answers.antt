use Rattle.std.proofs.Common.{[], subst, sym}
use Rattle.std.proofs.lemmas.List.{take_all}
use Rattle.std.proofs.lemmas.Result.{IfOk-from_err}
use Rattle.mds_tables.specs.Shown.{AreVersionsIn}
use Rattle.mds_tables.proofs.Listed.{listed_more}
use Rattle.mds_tables.proofs.querying.all_versions.Goals as goal

pub loop-i-preserved : goal.loop-i-preserved
loop-i-preserved c =
    listed_more c.args.length c.args.rows.now c.loop-i.i c.index-rows-i.result c.loop-i.versions.items c.push.new.self.items
    c.in_ok-version.version c.loop-i-test.true c.index-rows-i.is c.loop-i.invariant c.in_ok-version.ensures.ok
    c.in_ok-push.ensures.items

pub returns-in_err-versions : goal.returns-in_err-versions
returns-in_err-versions c = IfOk-from_err c.from_residual.result _ c.from_residual.ensures.0

pub loop-i-init : goal.loop-i-init
loop-i-init c = subst (AreVersionsIn c.args.length []) (sym c.in_ok-versions.ensures.items) tt

pub returns-in_err-version : goal.returns-in_err-version
returns-in_err-version c = IfOk-from_err c.from_residual-in_err-version.result _ c.from_residual-in_err-version.ensures.0

pub returns-in_err-push : goal.returns-in_err-push
returns-in_err-push c = IfOk-from_err c.from_residual-in_err-push.result _ c.from_residual-in_err-push.ensures.0

pub returns : goal.returns
returns c =
    subst (λ rows. AreVersionsIn c.args.length rows c.loop-i.versions.items) (take_all c.loop-i.i c.args.rows.now c.loop-i-test.false)
    c.loop-i.invariant

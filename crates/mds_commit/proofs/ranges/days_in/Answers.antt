use Rattle.std.proofs.Common.{◌≡◌, ◌++◌, [], ◌∷◌, map, take, ap, sym, ◌∙◌, arith}
use Rattle.std.proofs.lemmas.List.{map-append, take_all}
use Rattle.std.proofs.lemmas.Result.{IfOk-from_err}
use Rattle.mds_tables.proofs.PutLemmas.{one_more}
use Rattle.mds_commit.specs.Cuts.{day_unit}
use Rattle.mds_commit.proofs.ranges.days_in.Goals as goal

pub returns-in_err-days : goal.returns-in_err-days
returns-in_err-days c = IfOk-from_err c.from_residual.result _ c.from_residual.ensures.0

pub loop-row-init : goal.loop-row-init
loop-row-init c = c.in_ok-days.ensures.items

pub returns-in_err-day : goal.returns-in_err-day
returns-in_err-day c = IfOk-from_err c.from_residual-in_err-day.result _ c.from_residual-in_err-day.ensures.0

pub returns-in_err-push : goal.returns-in_err-push
returns-in_err-push c = IfOk-from_err c.from_residual-in_err-push.result _ c.from_residual-in_err-push.ensures.0

pub loop-row-preserved : goal.loop-row-preserved
loop-row-preserved c =
    let rows = c.args.rows.now in
    let at = c.loop-row.row-index in
    let row = c.row-item.result in
    let day = c.in_ok-day.day in
    let is : day ≡ day_unit row = rw c.in_ok-day.ensures at c.day_in.ensures in
    c.in_ok-push.ensures.items ∙ ap (λ days. days ++ day ∷ []) c.loop-row.invariant ∙ ap (λ day. map day_unit (take at rows) ++ day ∷ []) is
    ∙ sym (map-append day_unit (take at rows) (row ∷ [])) ∙ ap (map day_unit) (one_more rows at row (omega arith) c.row-item.is)

pub returns : goal.returns
returns c = c.loop-row.invariant ∙ ap (map day_unit) (take_all c.loop-row.row-index c.args.rows.now (omega arith))

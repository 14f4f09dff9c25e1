use Rattle.std.proofs.Common.{[], ◌∷◌, refl}
use Rattle.mds_tables.specs.Tables.{holiday_day, holiday_table, holiday_tree}
use Rattle.mds_tables.proofs.QueryLemmas.{finds_rows, holiday_typed, queried}
use Rattle.mds_store.proofs.ListTexts.{select_holidays, select_holidays_is, select_holidays_plain}
use Rattle.mds_store.proofs.rows.holiday_rows.Goals as goal

pub returns : goal.returns
returns g c layout =
    queried layout select_holidays (select_holidays_plain layout.more) _
    (λ clean. finds_rows layout select_holidays (select_holidays_plain layout.more) holiday_tree (holiday_day ∷ []) _ (λ db. refl)
    [] (select_holidays_is layout.more)
    holiday_table.columns tt (holiday_typed layout.more) _ _ (λ v. v.items) c.query_all.result
    (c.query_all.ensures.ok clean))
    c.query_all.ensures.err c.query_all.ensures.mode c.query_all.ensures.survives

use Rattle.std.proofs.Common.{[], ◌∷◌, refl}
use Rattle.mds_tables.specs.Cells as row
use Rattle.mds_tables.specs.Tables.{period_body, period_table, period_tree}
use Rattle.mds_tables.proofs.QueryLemmas.{finds_rows, period_typed, queried}
use Rattle.mds_store.proofs.ListTexts.{select_content, select_content_is, select_content_plain}
use Rattle.mds_store.proofs.RowsFound.{content_for}
use Rattle.mds_store.proofs.rows.content_rows.Goals as goal

pub returns : goal.returns
returns g c layout =
    queried layout select_content (select_content_plain layout.more) _
    (λ clean. finds_rows layout select_content (select_content_plain layout.more) period_tree (period_body ∷ []) _ (λ db. refl)
    (row.period_key_cells c.args.key.now) (select_content_is layout.more)
    period_table.columns (content_for c.args.key.now) (period_typed layout.more) _ _ (λ v. v.items) c.query_all.result
    (rw c.period_key_cells.ensures at (c.query_all.ensures.ok clean)))
    c.query_all.ensures.err c.query_all.ensures.mode c.query_all.ensures.survives

use Rattle.mds_tables.proofs.QueryLemmas.{queried}
use Rattle.mds_store.proofs.ListTexts.{select_periods, select_periods_plain}
use Rattle.mds_store.proofs.RowsFound.{finds_period_rows}
use Rattle.mds_store.proofs.rows.period_rows.Goals as goal

pub returns : goal.returns
returns g c layout =
    queried layout select_periods (select_periods_plain layout.more) _
    (λ clean. finds_period_rows layout c.args.stream.now _ _ (λ v. v.items) c.query_all.result
    (rw c.stream_cells.ensures at (c.query_all.ensures.ok clean)))
    c.query_all.ensures.err c.query_all.ensures.mode c.query_all.ensures.survives

use Rattle.std.proofs.Common.{refl}
use Rattle.mds_tables.specs.Cells as row
use Rattle.mds_tables.specs.Tables.{event_columns, event_table, event_tree}
use Rattle.mds_tables.proofs.QueryLemmas.{event_typed, events_for, finds_rows, queried}
use Rattle.mds_tables.proofs.SelectTexts.{select_events, select_events_is, select_events_plain}
use Rattle.mds_tables.proofs.selects.event_rows.Goals as goal

pub returns : goal.returns
returns g c layout =
    queried layout select_events (select_events_plain layout.more) _
    (λ clean. finds_rows layout select_events (select_events_plain layout.more) event_tree event_columns _ (λ db. refl)
    (row.day_cells c.args.stream.now c.args.day) (select_events_is layout.more)
    event_table.columns (events_for c.args.stream.now c.args.day) (event_typed layout.more) _ _ (λ v. v.items) c.query_all.result
    (rw c.day_cells.ensures at (c.query_all.ensures.ok clean)))
    c.query_all.ensures.err c.query_all.ensures.mode c.query_all.ensures.survives

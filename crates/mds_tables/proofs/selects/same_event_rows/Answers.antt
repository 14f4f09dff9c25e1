use Rattle.std.proofs.Common.{[], ◌∷◌, refl}
use Rattle.mds_tables.specs.Cells as row
use Rattle.mds_tables.specs.Tables.{event_nmi, event_table, event_tree}
use Rattle.mds_tables.proofs.QueryLemmas.{event_for, event_typed, finds_rows, queried}
use Rattle.mds_tables.proofs.SelectTexts.{select_event, select_event_is, select_event_plain}
use Rattle.mds_tables.proofs.selects.same_event_rows.Goals as goal

pub returns : goal.returns
returns g c layout =
    queried layout select_event (select_event_plain layout.more) _
    (λ clean. finds_rows layout select_event (select_event_plain layout.more) event_tree (event_nmi ∷ []) _ (λ db. refl)
    (row.event_cells c.args.event.now) (select_event_is layout.more)
    event_table.columns (event_for c.args.event.now) (event_typed layout.more) _ _ (λ v. v.items) c.query_all.result
    (rw c.event_cells.ensures at (c.query_all.ensures.ok clean)))
    c.query_all.ensures.err c.query_all.ensures.mode c.query_all.ensures.survives

use Rattle.std.proofs.Common.{[], refl}
use Rattle.sqlite.specs.Held.{state}
use Rattle.mds_tables.specs.Cells as row
use Rattle.mds_tables.specs.Tables.{schema_with}
use Rattle.mds_pack_rows.specs.PackTables.{pack_table, pack_tree, packs_then, update_columns}
use Rattle.mds_pack_rows.proofs.AskLemmas.{asked_kept, day_for, finds_there, pack_typed, shown_on}
use Rattle.mds_pack_rows.proofs.PassLemmas.{on_told, told_ok}
use Rattle.mds_pack_rows.proofs.PackTexts.{select_day, select_day_is, select_day_plain}
use Rattle.mds_pack_rows.proofs.statements.packs_of_day.Goals as goal

pub returns-clause-ok : goal.returns-clause-ok
returns-clause-ok g c clean =
    told_ok _ c.or_unavailable.result c.query_all.result c.or_unavailable.ensures
    (λ rows is.
    finds_there select_day pack_tree update_columns _ select_day_plain (λ db. refl) []
    (row.day_cells c.args.stream.now c.args.day) select_day_is
    pack_table.columns (day_for c.args.stream.now c.args.day) pack_typed
    (state g.S.Store c.args.tx.now.conn.now) (state g.S.Store c.query_all.new.self.conn.now) rows.items
    (rw (is, c.day_cells.ensures) at (c.query_all.ensures.ok clean)))

pub returns-clause-goes_on : goal.returns-clause-goes_on
returns-clause-goes_on g c =
    on_told _ c.or_unavailable.result c.query_all.result c.or_unavailable.ensures
    (λ rows is.
    shown_on select_day _ (state g.S.Store c.args.tx.now.conn.now) (state g.S.Store c.query_all.new.self.conn.now) rows.items
    (λ clean. rw is at (c.query_all.ensures.ok clean)))

pub returns-clause-kept : goal.returns-clause-kept
returns-clause-kept g c clean rest has =
    asked_kept (schema_with (packs_then rest)) select_day (select_day_plain rest).0 (state g.S.Store c.args.tx.now.conn.now) (state g.S.Store c.query_all.new.self.conn.now)
    _ has c.query_all.result (c.query_all.ensures.ok clean) (c.query_all.ensures.err clean)

use Rattle.std.proofs.Common.{refl}
use Rattle.sqlite.specs.Held.{state}
use Rattle.mds_tables.specs.Cells as row
use Rattle.mds_tables.specs.Stores.{Selects}
use Rattle.mds_tables.specs.Tables.{no_more, schema_with, version_columns, version_table, version_tree}
use Rattle.mds_tables.proofs.QueryLemmas.{version_for, version_typed}
use Rattle.mds_pack_rows.specs.PackTables.{packs_then}
use Rattle.mds_pack_rows.proofs.AskLemmas.{asked_kept, finds_there, shown_on}
use Rattle.mds_pack_rows.proofs.FrameLemmas.{frames_finds}
use Rattle.mds_pack_rows.proofs.PassLemmas.{on_told, told_ok}
use Rattle.mds_migrate.proofs.PackingTexts.{by_update, select_versions, select_versions_is, select_versions_plain}
use Rattle.mds_migrate.proofs.packing.version_rows.Goals as goal

pub returns-clause-frames : goal.returns-clause-frames
returns-clause-frames g c =
    let old = state g.S.Store c.args.tx.now.conn.now in
    let new = state g.S.Store c.query_all.new.self.conn.now in
    let cells = row.day_cells c.args.stream.now c.args.day in
    frames_finds no_more old new c.or_unavailable.result (λ rows trees. Selects version_tree cells version_columns trees rows.items)
    (λ clean _. told_ok _ c.or_unavailable.result c.query_all.result c.or_unavailable.ensures
    (λ rows is.
    finds_there select_versions version_tree version_columns _ select_versions_plain (λ db. refl) by_update cells select_versions_is
    version_table.columns (version_for c.args.stream.now c.args.day) (λ rest. version_typed (packs_then rest)) old new rows.items
    (rw (is, c.day_cells.ensures) at (c.query_all.ensures.ok clean))))
    (on_told _ c.or_unavailable.result c.query_all.result c.or_unavailable.ensures
    (λ rows is. shown_on select_versions _ old new rows.items (λ clean. rw is at (c.query_all.ensures.ok clean))))
    (λ clean _ rest has. asked_kept (schema_with (packs_then rest)) select_versions (select_versions_plain rest).0 old new _ has c.query_all.result
    (c.query_all.ensures.ok clean) (c.query_all.ensures.err clean))
    c.query_all.ensures.survives

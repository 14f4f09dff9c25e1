use Rattle.std.proofs.Common.{[], refl}
use Rattle.sqlite.specs.Held.{state}
use Rattle.mds_tables.specs.Stores.{Selects}
use Rattle.mds_tables.specs.Tables.{head_columns, head_table, head_tree, schema_with}
use Rattle.mds_tables.proofs.QueryLemmas.{head_typed}
use Rattle.mds_pack_rows.specs.PackTables.{packs_then}
use Rattle.mds_pack_rows.proofs.AskLemmas.{asked_kept, finds_there, shown_on}
use Rattle.mds_pack_rows.proofs.FrameLemmas.{frames_finds}
use Rattle.mds_pack_rows.proofs.PassLemmas.{on_told, told_ok}
use Rattle.mds_migrate.proofs.PackingTexts.{by_stream_day, select_heads, select_heads_is, select_heads_plain}
use Rattle.mds_migrate.proofs.packing.all_heads.Goals as goal

pub returns-clause-frames : goal.returns-clause-frames
returns-clause-frames g c more =
    let old = state g.S.Store c.args.tx.now.conn.now in
    let new = state g.S.Store c.query_all.new.self.conn.now in
    frames_finds more old new c.or_unavailable.result (λ rows trees. Selects head_tree [] head_columns trees rows.items)
    (λ clean _. told_ok _ c.or_unavailable.result c.query_all.result c.or_unavailable.ensures
    (λ rows is.
    finds_there select_heads head_tree head_columns _ select_heads_plain (λ db. refl) by_stream_day [] select_heads_is
    head_table.columns tt (λ rest. head_typed (packs_then rest)) old new rows.items (rw is at (c.query_all.ensures.ok clean))))
    (on_told _ c.or_unavailable.result c.query_all.result c.or_unavailable.ensures
    (λ rows is. shown_on select_heads _ old new rows.items (λ clean. rw is at (c.query_all.ensures.ok clean))))
    (λ clean _ rest has. asked_kept (schema_with (packs_then rest)) select_heads (select_heads_plain rest).0 old new _ has c.query_all.result
    (c.query_all.ensures.ok clean) (c.query_all.ensures.err clean))
    c.query_all.ensures.survives

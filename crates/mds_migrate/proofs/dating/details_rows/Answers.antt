use Rattle.sqlite.specs.Held.{state}
use Rattle.mds_tables.specs.Tables.{schema_with}
use Rattle.mds_pack_rows.specs.DailyTables.{daydetails}
use Rattle.mds_pack_rows.specs.PackTables.{packs_then}
use Rattle.mds_pack_rows.proofs.AskLemmas.{asked_kept, shown_on}
use Rattle.mds_pack_rows.proofs.FrameLemmas.{frames_finds}
use Rattle.mds_pack_rows.proofs.PassLemmas.{on_told, told_ok}
use Rattle.mds_migrate.specs.Dating.{ShowsDetailsOf}
use Rattle.mds_migrate.proofs.DatingOrder.{finds_details}
use Rattle.mds_migrate.proofs.DatingTexts.{select_details, select_details_plain}
use Rattle.mds_migrate.proofs.dating.details_rows.Goals as goal

pub returns-clause-frames : goal.returns-clause-frames
returns-clause-frames g c =
    let old = state g.S.Store c.args.tx.now.conn.now in
    let new = state g.S.Store c.query_all.new.self.conn.now in
    frames_finds daydetails old new c.or_unavailable.result (λ rows trees. ShowsDetailsOf c.args.stream.now trees rows.items)
    (λ clean _. told_ok _ c.or_unavailable.result c.query_all.result c.or_unavailable.ensures
    (λ rows is. finds_details c.args.stream.now old new rows.items (rw (is, c.stream_cells.ensures) at (c.query_all.ensures.ok clean))))
    (on_told _ c.or_unavailable.result c.query_all.result c.or_unavailable.ensures
    (λ rows is. shown_on select_details _ old new rows.items (λ clean. rw is at (c.query_all.ensures.ok clean))))
    (λ clean _ rest has. asked_kept (schema_with (packs_then rest)) select_details (select_details_plain rest).0 old new _ has c.query_all.result
    (c.query_all.ensures.ok clean) (c.query_all.ensures.err clean))
    c.query_all.ensures.survives

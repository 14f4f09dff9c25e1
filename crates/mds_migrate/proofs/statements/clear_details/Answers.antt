use Rattle.std.proofs.Common.{[], Ok, OnOk, length, ap, refl, ◌∙◌}
use Rattle.sqlite.specs.Held.{state}
use Rattle.sqlite.specs.State.{ExecutesInside, HasCleanDisk}
use Rattle.mds_tables.specs.Tables.{detail_table, detail_tree, schema_with}
use Rattle.mds_tables.proofs.CallLemmas.{still, keeps, survives_more}
use Rattle.mds_tables.proofs.FrameLemmas.{frames_failed}
use Rattle.mds_pack_rows.specs.DailyLayout.{daydetails_behind}
use Rattle.mds_pack_rows.specs.PackTables.{packs_then}
use Rattle.mds_pack_rows.specs.Putting.{GoesOn, IsThere}
use Rattle.mds_pack_rows.proofs.AskLemmas.{asked_kept, finds_all, shown_on}
use Rattle.mds_pack_rows.proofs.FrameLemmas.{frames_there, there_at}
use Rattle.mds_pack_rows.proofs.PutLemmas.{if_ok, on_then, ran_on}
use Rattle.mds_migrate.specs.Migrating.{Clears}
use Rattle.mds_migrate.proofs.StatementLemmas.{cleared_kept, clears, takes_details}
use Rattle.mds_migrate.proofs.StatementTexts.{delete_details, detail_place, moment_columns, select_moments, select_moments_is, select_moments_plain}
use Rattle.mds_migrate.proofs.statements.clear_details.Given.{Over}
use Rattle.mds_migrate.proofs.statements.clear_details.Goals.{In_ok-or_unavailable}
use Rattle.mds_migrate.proofs.statements.clear_details.Goals as goal

-- the rows were deleted
ran : (g : Over) (c : In_ok-or_unavailable g) → HasCleanDisk (state g.S.Store c.execute.new.self.conn.now)
    → ExecutesInside 0 delete_details [] (state g.S.Store c.args.tx.now.conn.now) (state g.S.Store c.execute.new.self.conn.now) (Ok c.in_ok-or_unavailable.field-0)
ran g c clean =
    rw c.in_ok-or_unavailable.ensures at (c.execute.ensures.runs clean (still _ _ _ _ c.execute.ensures.ended c.in_ok-or_unavailable.ensures))

pub returns-in_err-or_unavailable-clause-frames : goal.returns-in_err-or_unavailable-clause-frames
returns-in_err-or_unavailable-clause-frames g c =
    frames_failed c.from_residual.result c.from_residual.ensures.0
    (λ clean _. keeps (state g.S.Store c.args.tx.now.conn.now) (state g.S.Store c.execute.new.self.conn.now) _ _ c.execute.result
    (λ over. ap (state g.S.Store) (c.execute.ensures.ended over).1) (c.execute.ensures.runs clean))
    c.execute.ensures.survives

pub returns-in_err-left-clause-frames : goal.returns-in_err-left-clause-frames
returns-in_err-left-clause-frames g c =
    let old = state g.S.Store c.args.tx.now.conn.now in
    let mid = state g.S.Store c.execute.new.self.conn.now in
    let new = state g.S.Store c.query_all.new.self.conn.now in
    frames_failed c.from_residual-in_err-left.result c.from_residual-in_err-left.ensures.0
    (λ clean at. cleared_kept detail_table delete_details detail_place takes_details old mid new c.query_all.ensures.survives.clean
    c.in_ok-or_unavailable.field-0 (ran g (goal.at.returns-in_err-left-clause-frames g c).In_ok-or_unavailable)
    (λ clean rest has.
    asked_kept (schema_with (packs_then rest)) select_moments (select_moments_plain rest).0 mid new [] has c.query_all.result (c.query_all.ensures.ok clean) (c.query_all.ensures.err clean))
    (there_at daydetails_behind old new clean at))
    (survives_more old mid new c.execute.ensures.survives c.query_all.ensures.survives)

pub returns-clause-frames : goal.returns-clause-frames
returns-clause-frames g c =
    let old = state g.S.Store c.args.tx.now.conn.now in
    let mid = state g.S.Store c.execute.new.self.conn.now in
    let new = state g.S.Store c.query_all.new.self.conn.now in
    let goes_on : OnOk c.none_left.result (GoesOn old new) =
    if_ok c.none_left.result _ _
    (λ _.
    on_then old mid new c.query_all.ensures.survives.clean
    (ran_on delete_details [] c.in_ok-or_unavailable.field-0 old mid (ran g (goal.at.returns-clause-frames g c).In_ok-or_unavailable))
    (shown_on select_moments [] mid new c.in_ok-left.left.items (λ clean. rw c.in_ok-left.ensures at (c.query_all.ensures.ok clean))))
    c.none_left.ensures.ok in
    let done : OnOk c.none_left.result (IsThere old new → Clears detail_tree old new) =
    if_ok c.none_left.result _ _
    (λ none.
    clears detail_table delete_details detail_place takes_details old mid new c.query_all.ensures.survives.clean
    c.in_ok-or_unavailable.field-0 (ran g (goal.at.returns-clause-frames g c).In_ok-or_unavailable) moment_columns c.in_ok-left.left.items
    (ap length (rw c.deref.ensures.value at none))
    (λ clean. finds_all select_moments detail_tree moment_columns _ select_moments_plain (λ db. refl) select_moments_is
    mid new c.in_ok-left.left.items (rw c.in_ok-left.ensures at (c.query_all.ensures.ok clean))))
    c.none_left.ensures.ok in
    frames_there daydetails_behind old new c.none_left.result (λ (it : Clears detail_tree old new). (it.is_open, it.schema, it.sound)) goes_on done
    (cleared_kept detail_table delete_details detail_place takes_details old mid new c.query_all.ensures.survives.clean
    c.in_ok-or_unavailable.field-0 (ran g (goal.at.returns-clause-frames g c).In_ok-or_unavailable)
    (λ clean rest has.
    asked_kept (schema_with (packs_then rest)) select_moments (select_moments_plain rest).0 mid new [] has c.query_all.result (c.query_all.ensures.ok clean) (c.query_all.ensures.err clean)))
    (survives_more old mid new c.execute.ensures.survives c.query_all.ensures.survives)

pub returns-in_err-or_unavailable-clause-same_reference : goal.returns-in_err-or_unavailable-clause-same_reference
returns-in_err-or_unavailable-clause-same_reference g c = c.execute.ensures.same_reference

pub returns-in_err-left-clause-same_reference : goal.returns-in_err-left-clause-same_reference
returns-in_err-left-clause-same_reference g c = c.query_all.ensures.same_reference ∙ c.execute.ensures.same_reference

pub returns-clause-same_reference : goal.returns-clause-same_reference
returns-clause-same_reference g c = c.query_all.ensures.same_reference ∙ c.execute.ensures.same_reference

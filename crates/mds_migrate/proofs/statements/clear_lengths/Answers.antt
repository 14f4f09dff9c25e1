use Rattle.std.proofs.Common.{[], Ok, ap}
use Rattle.sqlite.specs.Held.{state}
use Rattle.sqlite.specs.State.{ExecutesInside, HasCleanDisk}
use Rattle.mds_tables.proofs.CallLemmas.{keeps, still}
use Rattle.mds_tables.proofs.FrameLemmas.{frames_failed}
use Rattle.mds_pack_rows.specs.FormLayout.{forms_behind}
use Rattle.mds_pack_rows.proofs.FrameLemmas.{frames_there}
use Rattle.mds_pack_rows.proofs.PutLemmas.{ran_on}
use Rattle.mds_migrate.specs.Migrating.{ClearsLengths}
use Rattle.mds_migrate.proofs.LengthLemmas.{clears_lengths}
use Rattle.mds_migrate.proofs.StatementTexts.{update_lengths}
use Rattle.mds_migrate.proofs.statements.clear_lengths.Goals as goal

pub returns-in_err-or_unavailable-clause-frames : goal.returns-in_err-or_unavailable-clause-frames
returns-in_err-or_unavailable-clause-frames g c =
    frames_failed c.from_residual.result c.from_residual.ensures.0
    (λ clean _. keeps (state g.S.Store c.args.tx.now.conn.now) (state g.S.Store c.execute.new.self.conn.now) _ _ c.execute.result
    (λ over. ap (state g.S.Store) (c.execute.ensures.ended over).1) (c.execute.ensures.runs clean))
    c.execute.ensures.survives

pub returns-clause-frames : goal.returns-clause-frames
returns-clause-frames g c =
    let old = state g.S.Store c.args.tx.now.conn.now in
    let new = state g.S.Store c.execute.new.self.conn.now in
    let runs : HasCleanDisk new → ExecutesInside 0 update_lengths [] old new (Ok c.in_ok-or_unavailable.field-0) =
    λ clean. rw c.in_ok-or_unavailable.ensures at (c.execute.ensures.runs clean (still _ _ _ _ c.execute.ensures.ended c.in_ok-or_unavailable.ensures)) in
    frames_there forms_behind old new (Ok tt) (λ (it : ClearsLengths old new). (it.is_open, it.schema, it.sound))
    (ran_on update_lengths [] _ old new runs) (clears_lengths old new c.in_ok-or_unavailable.field-0 runs)
    (λ there. keeps old new _ _ c.execute.result (λ over. ap (state g.S.Store) (c.execute.ensures.ended over).1) (c.execute.ensures.runs there.clean))
    c.execute.ensures.survives

pub returns-in_err-or_unavailable-clause-same_reference : goal.returns-in_err-or_unavailable-clause-same_reference
returns-in_err-or_unavailable-clause-same_reference g c = c.execute.ensures.same_reference

pub returns-clause-same_reference : goal.returns-clause-same_reference
returns-clause-same_reference g c = c.execute.ensures.same_reference

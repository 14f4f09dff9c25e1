use Rattle.sqlite.specs.Held.{state}
use Rattle.mds_tables.proofs.FrameLemmas.{frames_as, frames_both, frames_each, frames_failed, frames_passed}
use Rattle.mds_tables.proofs.PutLemmas.{puts_then}
use Rattle.mds_pack_rows.specs.Current.{after_forms, current_schema}
use Rattle.mds_commit.specs.FormPutting.{form_part}
use Rattle.mds_commit.proofs.committing.put_all_forms.Goals as goal

pub returns-in_err-or_unavailable-clause-frames : goal.returns-in_err-or_unavailable-clause-frames
returns-in_err-or_unavailable-clause-frames g c =
    let put = c.put_all.ensures.puts after_forms in
    frames_failed c.from_residual.result c.from_residual.ensures.0 (λ clean _. put.kept clean) put.survives

pub returns-clause-frames : goal.returns-clause-frames
returns-clause-frames g c =
    let new_days = rw (c.deref.ensures.value) at (rw c.in_ok-or_unavailable.ensures at (c.put_all.ensures.puts after_forms)) in
    let heads = rw (c.deref-2.ensures.value) at (c.put_all-2.ensures.puts after_forms) in
    let last = frames_passed c.or_unavailable-2.result c.put_all-2.result c.or_unavailable-2.ensures (frames_each _ heads) in
    frames_as (λ _ _ did. puts_then current_schema form_part (state g.S.Store c.args.tx.now.conn.now) (state g.S.Store c.put_all.new.tx.conn.now)
    (state g.S.Store c.put_all-2.new.tx.conn.now) c.args.additions.now.new_days.items c.args.additions.now.heads.items did.0.0 did.1.0)
    (frames_both (frames_each _ new_days) last)

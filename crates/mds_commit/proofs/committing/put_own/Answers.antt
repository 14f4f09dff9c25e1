use Rattle.std.proofs.Common.{[], Ok, Err, map}
use Rattle.sqlite.specs.Held.{state}
use Rattle.mds_keeper.specs.Content.{details_of, version_fact, versions_of}
use Rattle.mds_tables.proofs.FrameLemmas.{frames_as, frames_both, frames_stop}
use Rattle.mds_pack_rows.specs.Current.{after_details, current_behind}
use Rattle.mds_pack_rows.proofs.FrameLemmas.{frames_details, frames_packs}
use Rattle.mds_commit.proofs.OwnLemmas.{own_put}
use Rattle.mds_commit.proofs.committing.put_own.Goals as goal

pub returns-in_err-put_new_days-clause-frames : goal.returns-in_err-put_new_days-clause-frames
returns-in_err-put_new_days-clause-frames g c =
    frames_stop c.from_residual.result c.from_residual.ensures.0 c.put_new_days.ensures.frames

pub returns-in_err-put_days-clause-frames : goal.returns-in_err-put_days-clause-frames
returns-in_err-put_days-clause-frames g c =
    let packs = frames_packs {X = Unit {0}} {E = Unit {0}} current_behind (state g.S.Store c.put_new_days.new.tx.conn.now)
    (state g.S.Store c.put_days.new.tx.conn.now) [] (Err tt) tt c.put_days.ensures.kept c.put_days.ensures.survives in
    frames_stop c.from_residual-in_err-put_days.result c.from_residual-in_err-put_days.ensures.0 (frames_both c.in_ok-put_new_days.ensures.frames packs)

pub returns-in_err-put_all_forms-clause-frames : goal.returns-in_err-put_all_forms-clause-frames
returns-in_err-put_all_forms-clause-frames g c =
    let packs = frames_packs {X = Unit {0}} {E = Unit {0}} current_behind (state g.S.Store c.put_new_days.new.tx.conn.now)
    (state g.S.Store c.put_days.new.tx.conn.now) (map version_fact (versions_of c.args.additions.now.days.items)) (Ok tt)
    (rw (c.deref-3.ensures.value) at c.in_ok-put_days.ensures.ok) c.put_days.ensures.kept c.put_days.ensures.survives in
    frames_stop c.from_residual-in_err-put_all_forms.result c.from_residual-in_err-put_all_forms.ensures.0
    (frames_both c.in_ok-put_new_days.ensures.frames (frames_both packs c.put_all_forms.ensures.frames))

pub returns-clause-frames : goal.returns-clause-frames
returns-clause-frames g c =
    let packs = frames_packs {X = Unit {0}} {E = Unit {0}} current_behind (state g.S.Store c.put_new_days.new.tx.conn.now)
    (state g.S.Store c.put_days.new.tx.conn.now) (map version_fact (versions_of c.args.additions.now.days.items)) (Ok tt)
    (rw (c.deref-3.ensures.value) at c.in_ok-put_days.ensures.ok) c.put_days.ensures.kept c.put_days.ensures.survives in
    let details = frames_details after_details (state g.S.Store c.put_all_forms.new.tx.conn.now) (state g.S.Store c.put_details.new.tx.conn.now)
    (details_of c.args.additions.now.details.items) c.put_details.result (rw (c.deref-4.ensures.value) at c.put_details.ensures.ok)
    c.put_details.ensures.kept c.put_details.ensures.survives in
    let all = frames_both c.in_ok-put_new_days.ensures.frames (frames_both packs (frames_both c.in_ok-put_all_forms.ensures.frames details)) in
    frames_as (λ at _ did. own_put _ _ _ _ _ c.args.additions.now at.sound did.0 did.1.0 did.1.1.0 did.1.1.1) all

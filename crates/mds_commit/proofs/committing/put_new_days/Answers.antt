use Rattle.sqlite.specs.Held.{state}
use Rattle.mds_tables.proofs.FrameLemmas.{frames_both, frames_each, frames_failed, frames_stop, frames_then}
use Rattle.mds_pack_rows.specs.Current.{current_more}
use Rattle.mds_commit.specs.FormPutting.{SayUnits}
use Rattle.mds_commit.proofs.OwnLemmas.{days_put, frames_asked}
use Rattle.mds_commit.specs.Units.{HaveRowids}
use Rattle.mds_commit.proofs.UnitAsking.{asked_then}
use Rattle.mds_commit.proofs.committing.put_new_days.Goals as goal

pub returns-in_err-or_unavailable-clause-frames : goal.returns-in_err-or_unavailable-clause-frames
returns-in_err-or_unavailable-clause-frames g c =
    let put = c.put_all.ensures.puts current_more in
    frames_failed c.from_residual.result c.from_residual.ensures.0 (λ clean _. put.kept clean) put.survives

pub returns-in_err-have_rowids-clause-frames : goal.returns-in_err-have_rowids-clause-frames
returns-in_err-have_rowids-clause-frames g c =
    let put = rw c.in_ok-or_unavailable.ensures at (c.put_all.ensures.puts current_more) in
    frames_stop c.from_residual-in_err-have_rowids.result c.from_residual-in_err-have_rowids.ensures.0
    (frames_both (frames_each _ put)
    (frames_asked (state g.S.Store c.put_all.new.tx.conn.now) (state g.S.Store c.have_rowids.new.tx.conn.now) c.have_rowids.result _ c.have_rowids.ensures.asks))

pub returns-clause-frames : goal.returns-clause-frames
returns-clause-frames g c =
    let a = state g.S.Store c.args.tx.now.conn.now in
    let b = state g.S.Store c.put_all.new.tx.conn.now in
    let d = state g.S.Store c.have_units.new.tx.conn.now in
    let heads = c.args.additions.now.heads.items in
    let first = rw (c.deref.ensures.value) at (rw c.in_ok-or_unavailable.ensures at (c.put_all.ensures.puts current_more)) in
    let below = rw (c.deref-2.ensures.value) at c.are_days.ensures in
    let units = rw (c.deref-3.ensures.value) at c.have_units.ensures.asks in
    let asked = frames_asked b d c.have_units.result (λ _ trees. HaveRowids trees × SayUnits heads trees)
    (asked_then c.in_ok-have_rowids.ensures.asks (λ _ trees some say. (some, say)) units) in
    frames_then (λ _ at _ _ put told. days_put a b d c.args.additions.now at put below told) (frames_each _ first) asked

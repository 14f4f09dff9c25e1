use Rattle.std.proofs.Common.{map, subst, arith}
use Rattle.sqlite.specs.Held.{state}
use Rattle.mds_keeper.specs.Content.{version_at, version_fact}
use Rattle.mds_tables.proofs.FrameLemmas.{frames_refused, frames_stop, frames_then}
use Rattle.mds_tables.specs.Shown.{AreVersionsIn}
use Rattle.mds_pack_rows.specs.PacksLayout.{nothing_behind}
use Rattle.mds_pack_rows.proofs.FrameLemmas.{frames_packs}
use Rattle.mds_migrate.proofs.PackingLemmas.{packs_day}
use Rattle.mds_migrate.proofs.packing.pack_day_of.Goals as goal

pub returns-in_err-head-clause-frames : goal.returns-in_err-head-clause-frames
returns-in_err-head-clause-frames g c =
    frames_refused (state g.S.Store c.args.tx.now.conn.now) c.from_residual.result c.from_residual.ensures.0

pub returns-in_err-rows-clause-frames : goal.returns-in_err-rows-clause-frames
returns-in_err-rows-clause-frames g c =
    frames_stop c.from_residual-in_err-rows.result c.from_residual-in_err-rows.ensures.0 c.version_rows.ensures.frames

pub returns-in_err-all_versions-clause-frames : goal.returns-in_err-all_versions-clause-frames
returns-in_err-all_versions-clause-frames g c =
    frames_stop c.from_residual-in_err-all_versions.result c.from_residual-in_err-all_versions.ensures.0 c.version_rows.ensures.frames

pub returns-clause-frames : goal.returns-clause-frames
returns-clause-frames g c =
    let a = state g.S.Store c.args.tx.now.conn.now in
    let b = state g.S.Store c.version_rows.new.tx.conn.now in
    let d = state g.S.Store c.put_day.new.tx.conn.now in
    let head = c.in_ok-head.head in
    let versions = c.in_ok-all_versions.field-0.items in
    let put = frames_packs nothing_behind b d (map version_fact (map (version_at head.stream head.day) versions)) c.put_day.result
    c.put_day.ensures.ok c.put_day.ensures.kept c.put_day.ensures.survives in
    frames_then (λ _ at _ _ found puts. packs_day a b d at c.args.row.now head (rw c.in_ok-head.ensures at c.head_in.ensures.some)
    (omega (arith, c.number.ensures.last)) c.in_ok-rows.rows.items versions
    (subst (λ rows. AreVersionsIn head.length rows versions) c.as_slice.ensures.value c.in_ok-all_versions.ensures) found puts)
    c.in_ok-rows.ensures.frames put

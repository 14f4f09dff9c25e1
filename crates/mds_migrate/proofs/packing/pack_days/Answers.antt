use Rattle.std.proofs.Common.{◌≡◌, ◌≤◌, ◌∙◌, subst, take, take_all, arith}
use Rattle.sqlite.specs.Held.{state}
use Rattle.sqlite_trees.specs.View.{doubt}
use Rattle.mds_tables.specs.Tables.{no_more}
use Rattle.mds_tables.proofs.FrameLemmas.{frames_both, frames_so, frames_stop, frames_then}
use Rattle.mds_migrate.specs.Packing.{PacksDays}
use Rattle.mds_migrate.proofs.PackingLemmas.{packs_all, packs_next, packs_since}
use Rattle.mds_migrate.proofs.packing.pack_days.Goals as goal

pub loop-row-init : goal.loop-row-init
loop-row-init g c =
    let old = state g.S.Store c.args.tx.now.conn.now in
    let new = state g.S.Store c.all_heads.new.tx.conn.now in
    record {
      same = c.all_heads.ensures.same_reference;
      later = omega arith;
      frames = frames_so (λ clean _ there found. packs_since old new clean there found.0) (c.in_ok-heads.ensures.frames no_more);
    }

pub loop-row-preserved : goal.loop-row-preserved
loop-row-preserved g c =
    let before = c.loop-row.invariant in
    let more = c.in_ok-pack_day_of.ensures in
    record {
      same = more.same_reference ∙ before.same;
      later = omega (arith, before.later, more.frames.survives.clean);
      frames = frames_then (λ _ at _ _ days day. packs_next (state g.S.Store c.args.tx.now.conn.now) (state g.S.Store c.loop-row.tx.conn.now)
          (state g.S.Store c.pack_day_of.new.tx.conn.now) at c.as_slice-row-items.result.now c.loop-row.row-index c.row-item.result
          c.loop-row-test.true c.row-item.is days day)
          before.frames more.frames;
    }

pub returns-in_err-heads-clause-frames : goal.returns-in_err-heads-clause-frames
returns-in_err-heads-clause-frames g c = frames_stop c.from_residual.result c.from_residual.ensures.0 (c.all_heads.ensures.frames no_more)

pub returns-in_err-pack_day_of-clause-frames : goal.returns-in_err-pack_day_of-clause-frames
returns-in_err-pack_day_of-clause-frames g c =
    frames_stop c.from_residual-in_err-pack_day_of.result c.from_residual-in_err-pack_day_of.ensures.0
    (frames_both c.loop-row.invariant.frames c.pack_day_of.ensures.frames)

pub returns-clause-frames : goal.returns-clause-frames
returns-clause-frames g c =
    let old = state g.S.Store c.args.tx.now.conn.now in
    let new = state g.S.Store c.loop-row.tx.conn.now in
    let heads = c.as_slice-row-items.result.now in
    let all : take c.loop-row.row-index heads ≡ c.in_ok-heads.heads.items =
    take_all c.loop-row.row-index heads (omega arith) ∙ c.as_slice-row-items.ensures.value in
    let later : doubt (state g.S.Store c.all_heads.new.tx.conn.now).is_clean ≤ doubt new.is_clean = c.loop-row.invariant.later in
    frames_so (λ clean at _ days none.
    let sel = ((c.in_ok-heads.ensures.frames no_more).done (omega (arith, clean, later)) at).1.1 in
    packs_all old new c.in_ok-heads.heads.items (subst (PacksDays old new) all days) none sel)
    c.loop-row.invariant.frames

pub returns-in_err-heads-clause-same_reference : goal.returns-in_err-heads-clause-same_reference
returns-in_err-heads-clause-same_reference g c = c.all_heads.ensures.same_reference

pub returns-in_err-pack_day_of-clause-same_reference : goal.returns-in_err-pack_day_of-clause-same_reference
returns-in_err-pack_day_of-clause-same_reference g c = c.pack_day_of.ensures.same_reference ∙ c.loop-row.invariant.same

pub returns-clause-same_reference : goal.returns-clause-same_reference
returns-clause-same_reference g c = c.loop-row.invariant.same

use Rattle.std.proofs.Common.{◌∙◌, Ok, subst, take_all}
use Rattle.sqlite.specs.Held.{state}
use Rattle.mds_keeper.specs.declared.keeper.Unavailable.{Unavailable}
use Rattle.mds_tables.specs.Tables.{no_more}
use Rattle.mds_tables.proofs.FrameLemmas.{frames_both, frames_each, frames_none, frames_put, frames_so, frames_stop, frames_then}
use Rattle.mds_migrate.specs.Forming.{PutsForms}
use Rattle.mds_migrate.proofs.FormingLemmas.{forms_next, forms_none}
use Rattle.mds_migrate.proofs.forming.form_each.Goals as goal

pub loop-pack-init : goal.loop-pack-init
loop-pack-init g c =
    let now = state g.S.Store c.args.tx.now.conn.now in
    record {
      same = λ i. c.args.tx.now.conn.ghost_name;
      frames = frames_none now (λ clean at. forms_none now c.args.head.now clean at);
    }

pub loop-pack-preserved : goal.loop-pack-preserved
loop-pack-preserved g c =
    let before = c.loop-pack.invariant in
    let more = rw (c.in_ok-or_unavailable.ensures, c.from_ref.ensures.value) at (c.put_each.ensures.puts no_more) in
    let put = frames_put {X = Unit {0}} {E = Unavailable} (Ok tt) more.ok more.kept more.survives in
    record {
      same = c.put_each.ensures.same_reference ∙ before.same;
      frames = frames_then (λ _ _ _ _ forms form. forms_next (state g.S.Store c.args.tx.now.conn.now) (state g.S.Store c.loop-pack.tx.conn.now)
          (state g.S.Store c.put_each.new.tx.conn.now) c.args.head.now c.args.packs.now c.loop-pack.pack-index c.pack-item.result c.in_ok-form.form
          c.loop-pack-test.true c.pack-item.is c.in_ok-form.ensures.is c.in_ok-form.ensures.says forms form)
          before.frames put;
    }

pub returns-in_err-form-clause-frames : goal.returns-in_err-form-clause-frames
returns-in_err-form-clause-frames g c = frames_stop c.from_residual.result c.from_residual.ensures.0 c.loop-pack.invariant.frames

pub returns-in_err-or_unavailable-clause-frames : goal.returns-in_err-or_unavailable-clause-frames
returns-in_err-or_unavailable-clause-frames g c =
    frames_stop c.from_residual-in_err-or_unavailable.result c.from_residual-in_err-or_unavailable.ensures.0
    (frames_both c.loop-pack.invariant.frames (frames_each c.put_each.result (c.put_each.ensures.puts no_more)))

pub returns-clause-frames : goal.returns-clause-frames
returns-clause-frames g c =
    frames_so (λ _ _ _ forms. subst (PutsForms (state g.S.Store c.args.tx.now.conn.now) (state g.S.Store c.loop-pack.tx.conn.now) c.args.head.now)
    (take_all c.loop-pack.pack-index c.args.packs.now c.loop-pack-test.false) forms) c.loop-pack.invariant.frames

pub returns-in_err-form-clause-same_reference : goal.returns-in_err-form-clause-same_reference
returns-in_err-form-clause-same_reference g c = c.loop-pack.invariant.same

pub returns-in_err-or_unavailable-clause-same_reference : goal.returns-in_err-or_unavailable-clause-same_reference
returns-in_err-or_unavailable-clause-same_reference g c = c.put_each.ensures.same_reference ∙ c.loop-pack.invariant.same

pub returns-clause-same_reference : goal.returns-clause-same_reference
returns-clause-same_reference g c = c.loop-pack.invariant.same

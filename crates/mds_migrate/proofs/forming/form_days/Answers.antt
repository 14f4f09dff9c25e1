use Rattle.std.proofs.Common.{◌≡◌, ◌≤◌, ◌∙◌, IsTrue, subst, take, take_all, arith, rules}
use Rattle.std.specs.List.{AllPairs}
use Rattle.sqlite.specs.Held.{state}
use Rattle.sqlite_trees.specs.View.{doubt}
use Rattle.mds_tables.proofs.FrameLemmas.{frames_both, frames_err, frames_so, frames_stop, frames_then}
use Rattle.mds_pack_rows.specs.FormLayout.{forms_behind}
use Rattle.mds_migrate.specs.Forming.{FormsDays, IsBefore}
use Rattle.mds_migrate.proofs.FormingLemmas.{days_next, forms_all, forms_since}
use Rattle.mds_migrate.proofs.forming.form_days.Goals as goal

pub loop-row-init : goal.loop-row-init
loop-row-init g c =
    let old = state g.S.Store c.args.tx.now.conn.now in
    let new = state g.S.Store c.all_heads.new.tx.conn.now in
    record {
      same = c.all_heads.ensures.same_reference;
      later = omega arith;
      frames = frames_so (λ clean _ there found. forms_since old new clean there found.0) (c.in_ok-days.ensures.frames forms_behind.more);
    }

pub loop-row-preserved : goal.loop-row-preserved
loop-row-preserved g c =
    let before = c.loop-row.invariant in
    let more = c.in_ok-form_day.ensures in
    record {
      same = more.same_reference ∙ before.same;
      later = omega (arith, before.later, more.frames.survives.clean);
      frames = frames_then (λ _ _ _ _ days day. days_next (state g.S.Store c.args.tx.now.conn.now) (state g.S.Store c.loop-row.tx.conn.now)
          (state g.S.Store c.form_day.new.tx.conn.now) c.as_slice-row-items.result.now c.loop-row.row-index c.row-item.result c.loop-row-test.true
          c.row-item.is days day)
          before.frames more.frames;
    }

pub returns-in_err-days-clause-frames : goal.returns-in_err-days-clause-frames
returns-in_err-days-clause-frames g c = frames_stop c.from_residual.result c.from_residual.ensures.0 (c.all_heads.ensures.frames forms_behind.more)

pub returns-then-not-are_sorted-clause-frames : goal.returns-then-not-are_sorted-clause-frames
returns-then-not-are_sorted-clause-frames g c =
    let heads = c.all_heads.ensures.frames forms_behind.more in
    frames_err heads.kept heads.survives

pub returns-in_err-form_day-clause-frames : goal.returns-in_err-form_day-clause-frames
returns-in_err-form_day-clause-frames g c =
    frames_stop c.from_residual-in_err-form_day.result c.from_residual-in_err-form_day.ensures.0
    (frames_both c.loop-row.invariant.frames c.form_day.ensures.frames)

pub returns-clause-frames : goal.returns-clause-frames
returns-clause-frames g c =
    let old = state g.S.Store c.args.tx.now.conn.now in
    let new = state g.S.Store c.loop-row.tx.conn.now in
    let days = c.as_slice-row-items.result.now in
    let all : take c.loop-row.row-index days ≡ c.in_ok-days.days.items =
    take_all c.loop-row.row-index days (omega arith) ∙ c.as_slice-row-items.ensures.value in
    let yes : IsTrue c.are_in_order-are_sorted.result = search (rules, c.if-not-are_sorted.false) in
    let sorted = subst (AllPairs IsBefore) c.as_slice.ensures.value (c.are_in_order-are_sorted.ensures yes) in
    let later : doubt (state g.S.Store c.all_heads.new.tx.conn.now).is_clean ≤ doubt new.is_clean = c.loop-row.invariant.later in
    frames_so (λ clean at _ forms.
    let sel = ((c.in_ok-days.ensures.frames forms_behind.more).done (omega (arith, clean, later)) at).1.1 in
    forms_all old new c.in_ok-days.days.items sel sorted (subst (FormsDays old new) all forms))
    c.loop-row.invariant.frames

pub returns-in_err-days-clause-same_reference : goal.returns-in_err-days-clause-same_reference
returns-in_err-days-clause-same_reference g c = c.all_heads.ensures.same_reference

pub returns-then-not-are_sorted-clause-same_reference : goal.returns-then-not-are_sorted-clause-same_reference
returns-then-not-are_sorted-clause-same_reference g c = c.all_heads.ensures.same_reference

pub returns-in_err-form_day-clause-same_reference : goal.returns-in_err-form_day-clause-same_reference
returns-in_err-form_day-clause-same_reference g c = c.form_day.ensures.same_reference ∙ c.loop-row.invariant.same

pub returns-clause-same_reference : goal.returns-clause-same_reference
returns-clause-same_reference g c = c.loop-row.invariant.same

use Rattle.std.specs.Prelude.{All}
use Rattle.std.proofs.Common.{IsTrue, subst, rules, refl}
use Rattle.std.proofs.lemmas.Result.{IfOk-from_err}
use Rattle.sqlite.specs.Held.{state}
use Rattle.mds_tables.proofs.FrameLemmas.{frames_err, frames_so, frames_stop}
use Rattle.mds_commit.specs.Shown.{IsDetailRow}
use Rattle.mds_migrate.specs.Dating.{SaysFirst}
use Rattle.mds_migrate.proofs.DatingLemmas.{finds_greatest}
use Rattle.mds_migrate.proofs.dating.greatest_of.Goals as goal

pub returns-in_err-rows-clause-of : goal.returns-in_err-rows-clause-of
returns-in_err-rows-clause-of g c = IfOk-from_err c.from_residual.result _ c.from_residual.ensures.0

pub returns-in_err-rows-clause-frames : goal.returns-in_err-rows-clause-frames
returns-in_err-rows-clause-frames g c = frames_stop c.from_residual.result c.from_residual.ensures.0 c.details_rows.ensures.frames

pub returns-then-not-are_detail_rows-clause-of : goal.returns-then-not-are_detail_rows-clause-of
returns-then-not-are_detail_rows-clause-of g c = tt

pub returns-then-not-are_detail_rows-clause-frames : goal.returns-then-not-are_detail_rows-clause-frames
returns-then-not-are_detail_rows-clause-frames g c =
    frames_err c.details_rows.ensures.frames.kept c.details_rows.ensures.frames.survives

pub returns-in_err-details-clause-of : goal.returns-in_err-details-clause-of
returns-in_err-details-clause-of g c = IfOk-from_err c.from_residual-in_err-details.result _ c.from_residual-in_err-details.ensures.0

pub returns-in_err-details-clause-frames : goal.returns-in_err-details-clause-frames
returns-in_err-details-clause-frames g c =
    frames_stop c.from_residual-in_err-details.result c.from_residual-in_err-details.ensures.0 c.details_rows.ensures.frames

pub returns-clause-of : goal.returns-clause-of
returns-clause-of g c = refl

pub returns-clause-frames : goal.returns-clause-frames
returns-clause-frames g c =
    let rows = c.in_ok-rows.rows.items in
    let yes : IsTrue c.are_detail_rows.result = search (rules, c.if-not-are_detail_rows.false) in
    let all : All (λ row. IsDetailRow row) rows = subst (λ rows. All (λ row. IsDetailRow row) rows) c.as_slice.ensures.value (c.are_detail_rows.ensures.yes yes) in
    let says = subst (λ rows. SaysFirst rows c.args.stream c.in_ok-details.details) c.as_slice-2.ensures.value c.in_ok-details.ensures in
    frames_so (λ _ at _ found. (
      found.0,
      finds_greatest c.args.stream (state g.S.Store c.args.tx.now.conn.now).now.trees at.sound rows
          c.in_ok-details.details all says found.1,
    )) c.in_ok-rows.ensures.frames

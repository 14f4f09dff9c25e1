use Rattle.std.proofs.Common.{inl}
use Rattle.std.proofs.lemmas.Result.{err_from_is_err_and}
use Rattle.sqlite.specs.Held.{state}
use Rattle.mds_tables.proofs.CauseLemmas.{store_fails}
use Rattle.mds_tables.proofs.Asked.{and_then, answers, steady, unanswered, why_failed}
use Rattle.mds_tables.specs.Tables.{detail_tree}
use Rattle.mds_store.specs.Shown.{detail_moment}
use Rattle.mds_store.proofs.CurrentAdopting.{shows_none}
use Rattle.mds_store.proofs.starting.is_undated.Goals as goal

pub returns-clause-answers : goal.returns-clause-answers
returns-clause-answers g c layout =
    answers (λ held. held)
    (and_then (steady layout c.in_ok-ready.ensures.ok c.ready.ensures.survives c.ready.ensures.mode) (c.in_ok-moments.ensures.asked layout)) _
    (λ known. shows_none detail_tree detail_moment (state g.S.Store c.args.conn.now).committed.trees c.in_ok-moments.moments.items known.1 c.are_none.result
    (rw c.deref.ensures.value at c.are_none.ensures))

pub returns-in_err-ready-clause-cause : goal.returns-in_err-ready-clause-cause
returns-in_err-ready-clause-cause g c layout clean held =
    let p = err_from_is_err_and c.from_residual.result c.from_residual.ensures.1 in
    rw (p.1, p.2)
    (inl (store_fails (state g.S.Store c.args.conn.now) (state g.S.Store c.ready.new.conn) ⊥ _ (c.in_err-ready.ensures.cause clean)))

pub returns-in_err-moments-clause-cause : goal.returns-in_err-moments-clause-cause
returns-in_err-moments-clause-cause g c layout clean held =
    let p = err_from_is_err_and c.from_residual-in_err-moments.result c.from_residual-in_err-moments.ensures.1 in
    rw (p.1, p.2)
    (why_failed (steady layout c.in_ok-ready.ensures.ok c.ready.ensures.survives c.ready.ensures.mode) (c.detail_rows.ensures.asked layout) held clean
    _ (c.in_err-moments.ensures.cause layout clean))

pub returns-in_err-moments-clause-answers : goal.returns-in_err-moments-clause-answers
returns-in_err-moments-clause-answers g c layout =
    let p = err_from_is_err_and c.from_residual-in_err-moments.result c.from_residual-in_err-moments.ensures.1 in
    rw (p.1)
    (unanswered (λ held. held) (steady layout c.in_ok-ready.ensures.ok c.ready.ensures.survives c.ready.ensures.mode)
    (c.in_err-moments.ensures.asked layout) _)

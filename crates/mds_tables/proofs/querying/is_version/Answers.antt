use Rattle.std.proofs.Common.{inl, w64}
use Rattle.std.proofs.lemmas.Int.{to_z-of_z}
use Rattle.std.proofs.lemmas.Result.{err_from_is_err_and}
use Rattle.sqlite.specs.Held.{state}
use Rattle.mds_tables.proofs.CauseLemmas.{store_fails}
use Rattle.mds_tables.proofs.Asked.{and_then, answers, steady, unanswered, unready, why_failed}
use Rattle.mds_tables.proofs.OneNumber.{finds_number}
use Rattle.mds_tables.proofs.querying.is_version.Goals as goal

pub returns-in_err-ready-clause-answers : goal.returns-in_err-ready-clause-answers
returns-in_err-ready-clause-answers g c layout =
    let p = err_from_is_err_and c.from_residual.result c.from_residual.ensures.1 in
    rw (p.1, p.2) (unready c.in_err-ready.ensures.err c.ready.ensures.survives c.ready.ensures.mode _)

pub returns-in_err-rows-clause-answers : goal.returns-in_err-rows-clause-answers
returns-in_err-rows-clause-answers g c layout =
    let p = err_from_is_err_and c.from_residual-in_err-rows.result c.from_residual-in_err-rows.ensures.1 in
    rw (p.1, p.2)
    (unanswered (λ held. held) (steady layout c.in_ok-ready.ensures.ok c.ready.ensures.survives c.ready.ensures.mode)
    (c.in_err-rows.ensures.asked layout) _)

pub returns-clause-answers : goal.returns-clause-answers
returns-clause-answers g c layout =
    answers (λ held. held)
    (and_then (steady layout c.in_ok-ready.ensures.ok c.ready.ensures.survives c.ready.ensures.mode) (c.in_ok-rows.ensures.asked layout)) _
    (λ known. finds_number layout.more c.args.number _ known.0 c.in_ok-rows.rows.items known.1 c.is_only.result
    (rw (c.deref.ensures.value, to_z-of_z w64 c.args.number c.ranges.number) at c.is_only.ensures))

pub returns-in_err-ready-clause-cause : goal.returns-in_err-ready-clause-cause
returns-in_err-ready-clause-cause g c layout clean held =
    let p = err_from_is_err_and c.from_residual.result c.from_residual.ensures.1 in
    rw (p.1, p.2)
    (inl (store_fails (state g.S.Store c.args.conn.now) (state g.S.Store c.ready.new.conn) ⊥ _ (c.in_err-ready.ensures.cause clean)))

pub returns-in_err-rows-clause-cause : goal.returns-in_err-rows-clause-cause
returns-in_err-rows-clause-cause g c layout clean held =
    let p = err_from_is_err_and c.from_residual-in_err-rows.result c.from_residual-in_err-rows.ensures.1 in
    rw (p.1, p.2)
    (why_failed (steady layout c.in_ok-ready.ensures.ok c.ready.ensures.survives c.ready.ensures.mode) (c.version_numbers.ensures.asked layout) held clean
    _ (c.in_err-rows.ensures.cause layout clean))

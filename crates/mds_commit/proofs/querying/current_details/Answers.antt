use Rattle.std.proofs.Common.{arith}
use Rattle.std.proofs.lemmas.Result.{IfOk-from_err, err_from_is_err_and}
use Rattle.std.specs.Prelude.{All, Err, IsErr, None, Ok, OnErr, Result, Some}
use Rattle.sqlite.specs.Held.{state}
use Rattle.mds_tables.specs.Shown.{SaysDay}
use Rattle.mds_tables.proofs.Asked.{and_then, answers, refused, steady, tables_held, unready, with_both}
use Rattle.mds_pack_rows.specs.Current.{current_layout}
use Rattle.mds_commit.specs.Shown.{IsDetailRow, TellsFirst}
use Rattle.mds_commit.proofs.DayFacts.{finds_current, finds_none, finds_own}
use Rattle.mds_commit.proofs.querying.current_details.Goals as goal

-- what is said of each error is said of this one
at_err : {T E P : Type 0} (r : Result T E) → IsErr r → OnErr r P → P
at_err (Ok x) failed h = absurd (cc (failed))
at_err (Err e) failed h = h

pub returns-then-not-is_empty : goal.returns-then-not-is_empty
returns-then-not-is_empty g c =
    let rows = c.in_ok-own.own.items in
    let ready = steady current_layout (rw c.in_ok-or_unavailable.ensures at c.ready.ensures.ok) c.ready.ensures.survives c.ready.ensures.mode in
    answers (tables_held current_layout (state g.S.Store c.args.conn.now)) (and_then ready (rw c.in_ok-own.ensures at c.details_rows.ensures)) c.first_details.result
    (λ known. with_both c.first_details.result (λ _. All (λ row. IsDetailRow row) rows) (TellsFirst rows) _
    (λ details lawful first. finds_own _ known.0 c.args.stream.now c.args.day (omega (arith, c.number.ensures.last)) rows known.1 lawful details first)
    (rw c.deref.ensures.value at c.first_details.ensures.all)
    (rw c.deref.ensures.value at c.first_details.ensures.first))

pub returns-in_default : goal.returns-in_default
returns-in_default g c =
    let found = c.in_ok-found.found.items in
    let says : SaysDay found None = rw (c.deref-2.ensures.value, c.in_default.is) at c.in_ok-nearest.ensures.ok in
    let ready = steady current_layout (rw c.in_ok-or_unavailable.ensures at c.ready.ensures.ok) c.ready.ensures.survives c.ready.ensures.mode in
    let asked = and_then (and_then ready (rw c.in_ok-own.ensures at c.details_rows.ensures)) (rw c.in_ok-found.ensures at c.nearest_rows.ensures) in
    answers (tables_held current_layout (state g.S.Store c.args.conn.now)) asked _
    (λ known. finds_none _ known.0.0 c.args.stream.now c.args.day (omega (arith, c.number.ensures.last)) found known.1 says
    c.empty_details.result c.empty_details.ensures)

pub returns : goal.returns
returns g c =
    let found = c.in_ok-found.found.items in
    let rows = c.in_ok-rows.rows.items in
    let says : SaysDay found (Some c.in-Some.of) = rw (c.deref-2.ensures.value, c.in-Some.is) at c.in_ok-nearest.ensures.ok in
    let ready = steady current_layout (rw c.in_ok-or_unavailable.ensures at c.ready.ensures.ok) c.ready.ensures.survives c.ready.ensures.mode in
    let asked = and_then (and_then (and_then ready (rw c.in_ok-own.ensures at c.details_rows.ensures)) (rw c.in_ok-found.ensures at c.nearest_rows.ensures)) (rw c.in_ok-rows.ensures at c.details_rows-2.ensures) in
    answers (tables_held current_layout (state g.S.Store c.args.conn.now)) asked c.first_details-2.result
    (λ known. with_both c.first_details-2.result (λ _. All (λ row. IsDetailRow row) rows) (TellsFirst rows) _
    (λ details lawful first. finds_current _ known.0.0.0 c.args.stream.now c.args.day (omega (arith, c.number.ensures.last)) found
    known.0.1 c.in-Some.of says rows known.1 lawful details first)
    (rw c.deref-3.ensures.value at c.first_details-2.ensures.all)
    (rw c.deref-3.ensures.value at c.first_details-2.ensures.first))

pub returns-in_err-or_unavailable : goal.returns-in_err-or_unavailable
returns-in_err-or_unavailable g c =
    let p = err_from_is_err_and c.from_residual.result c.from_residual.ensures.1 in
    rw p.1 (unready (λ clean. at_err c.ready.result c.in_err-or_unavailable.ensures (c.ready.ensures.err clean)) c.ready.ensures.survives c.ready.ensures.mode p.0)

pub returns-in_err-own : goal.returns-in_err-own
returns-in_err-own g c =
    let ready = steady current_layout (rw c.in_ok-or_unavailable.ensures at c.ready.ensures.ok) c.ready.ensures.survives c.ready.ensures.mode in
    refused (tables_held current_layout (state g.S.Store c.args.conn.now)) ready _ c.details_rows.ensures c.in_err-own.ensures _ _
    c.from_residual-in_err-own.ensures.1

pub returns-in_err-found : goal.returns-in_err-found
returns-in_err-found g c =
    let ready = steady current_layout (rw c.in_ok-or_unavailable.ensures at c.ready.ensures.ok) c.ready.ensures.survives c.ready.ensures.mode in
    refused (tables_held current_layout (state g.S.Store c.args.conn.now)) (and_then ready (rw c.in_ok-own.ensures at c.details_rows.ensures)) _
    c.nearest_rows.ensures c.in_err-found.ensures _ _ c.from_residual-in_err-found.ensures.1

pub returns-in_err-nearest : goal.returns-in_err-nearest
returns-in_err-nearest g c =
    let ready = steady current_layout (rw c.in_ok-or_unavailable.ensures at c.ready.ensures.ok) c.ready.ensures.survives c.ready.ensures.mode in
    answers (tables_held current_layout (state g.S.Store c.args.conn.now))
    (and_then (and_then ready (rw c.in_ok-own.ensures at c.details_rows.ensures)) (rw c.in_ok-found.ensures at c.nearest_rows.ensures))
    c.from_residual-in_err-nearest.result (λ known. IfOk-from_err c.from_residual-in_err-nearest.result _ c.from_residual-in_err-nearest.ensures.0)

pub returns-in_err-rows : goal.returns-in_err-rows
returns-in_err-rows g c =
    let ready = steady current_layout (rw c.in_ok-or_unavailable.ensures at c.ready.ensures.ok) c.ready.ensures.survives c.ready.ensures.mode in
    refused (tables_held current_layout (state g.S.Store c.args.conn.now))
    (and_then (and_then ready (rw c.in_ok-own.ensures at c.details_rows.ensures)) (rw c.in_ok-found.ensures at c.nearest_rows.ensures)) _
    c.details_rows-2.ensures c.in_err-rows.ensures _ _ c.from_residual-in_err-rows.ensures.1

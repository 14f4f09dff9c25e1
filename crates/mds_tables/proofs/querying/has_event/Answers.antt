use Rattle.std.specs.Prelude.{◌≢◌, [], IsTrue}
use Rattle.sqlite.specs.Held.{state}
use Rattle.mds_tables.proofs.Asked.{and_then, answers, either_way, refused, steady, tables_held}
use Rattle.mds_tables.proofs.Listed.{finds_event}
use Rattle.mds_tables.proofs.querying.has_event.Goals as goal

pub returns-in_err-rows : goal.returns-in_err-rows
returns-in_err-rows g c layout =
    let ready = steady layout (rw c.in_ok-or_unavailable.ensures at c.ready.ensures.ok) c.ready.ensures.survives c.ready.ensures.mode in
    refused (tables_held layout (state g.S.Store c.args.conn.now)) ready _ (c.same_event_rows.ensures layout) c.in_err-rows.ensures _ _
    c.from_residual-in_err-rows.ensures.1

pub returns : goal.returns
returns g c layout =
    let rows = c.in_ok-rows.rows.items in
    let small = c.has_small_numbers.ensures in
    let ready = steady layout (rw c.in_ok-or_unavailable.ensures at c.ready.ensures.ok) c.ready.ensures.survives c.ready.ensures.mode in
    let asked = and_then ready (rw c.in_ok-rows.ensures at (c.same_event_rows.ensures layout)) in
    answers (tables_held layout (state g.S.Store c.args.conn.now)) asked _
    (λ known. either_way (IsTrue c.has_any.result) (rows ≢ []) _
    (rw c.deref.ensures.value at c.has_any.ensures)
    (finds_event layout _ known.0 c.args.event.now small.day small.trans small.moment rows known.1))

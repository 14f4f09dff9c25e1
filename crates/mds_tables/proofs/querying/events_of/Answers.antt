use Rattle.std.proofs.Common.{arith}
use Rattle.sqlite.specs.Held.{state}
use Rattle.mds_world.specs.Lists.{Apart}
use Rattle.mds_tables.specs.Shown.{AreEventsIn}
use Rattle.mds_tables.proofs.Asked.{and_then, answers, refused, steady, tables_held, with_both}
use Rattle.mds_tables.proofs.Listed.{finds_events}
use Rattle.mds_tables.proofs.querying.events_of.Goals as goal

pub returns-in_err-rows : goal.returns-in_err-rows
returns-in_err-rows g c layout =
    let ready = steady layout (rw c.in_ok-or_unavailable.ensures at c.ready.ensures.ok) c.ready.ensures.survives c.ready.ensures.mode in
    refused (tables_held layout (state g.S.Store c.args.conn.now)) ready _ (c.event_rows.ensures layout) c.in_err-rows.ensures _ _
    c.from_residual-in_err-rows.ensures.1

pub returns : goal.returns
returns g c layout =
    let rows = c.in_ok-rows.rows.items in
    let ready = steady layout (rw c.in_ok-or_unavailable.ensures at c.ready.ensures.ok) c.ready.ensures.survives c.ready.ensures.mode in
    let asked = and_then ready (rw c.in_ok-rows.ensures at (c.event_rows.ensures layout)) in
    answers (tables_held layout (state g.S.Store c.args.conn.now)) asked c.all_events.result
    (λ known. with_both c.all_events.result (λ events. AreEventsIn rows events.items) (λ events. Apart events.items) _
    (λ events. finds_events layout c.args.stream.now c.args.day (omega (arith, c.number.ensures.last)) _ known.0 rows known.1 events.items)
    (rw c.deref.ensures.value at c.all_events.ensures.each)
    c.all_events.ensures.apart)

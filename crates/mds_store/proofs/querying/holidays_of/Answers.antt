use Rattle.std.proofs.Common.{◌<◌}
use Rattle.std.specs.List.{AllPairs}
use Rattle.sqlite.specs.Held.{state}
use Rattle.mds_tables.proofs.Asked.{and_then, answers, refused, steady, tables_held, with_both}
use Rattle.mds_store.specs.Said.{AreHolidaysIn}
use Rattle.mds_store.proofs.Listed.{finds_holidays}
use Rattle.mds_store.proofs.querying.holidays_of.Goals as goal

pub returns-in_err-rows : goal.returns-in_err-rows
returns-in_err-rows g c layout =
    let ready = steady layout (rw c.in_ok-or_unavailable.ensures at c.ready.ensures.ok) c.ready.ensures.survives c.ready.ensures.mode in
    refused (tables_held layout (state g.S.Store c.args.conn.now)) ready _ (c.holiday_rows.ensures layout) c.in_err-rows.ensures _ _
    c.from_residual-in_err-rows.ensures.1

pub returns : goal.returns
returns g c layout =
    let rows = c.in_ok-rows.rows.items in
    let ready = steady layout (rw c.in_ok-or_unavailable.ensures at c.ready.ensures.ok) c.ready.ensures.survives c.ready.ensures.mode in
    let asked = and_then ready (rw c.in_ok-rows.ensures at (c.holiday_rows.ensures layout)) in
    answers (tables_held layout (state g.S.Store c.args.conn.now)) asked c.all_holidays.result
    (λ known. with_both c.all_holidays.result (λ days. AreHolidaysIn rows days.items) (λ days. AllPairs (λ a b. a < b) days.items) _
    (λ days. finds_holidays layout (state g.S.Store c.args.conn.now).committed.trees rows known.1 days.items)
    (rw c.deref.ensures.value at c.all_holidays.ensures.each)
    c.all_holidays.ensures.ascending)

use Rattle.std.specs.List.{AllPairs}
use Rattle.sqlite.specs.Held.{state}
use Rattle.mds_tables.proofs.Asked.{and_then, answers, refused, steady, tables_held, with_both}
use Rattle.mds_store.specs.Periods.{ArePeriodsIn}
use Rattle.mds_store.proofs.PeriodLemmas.{IsBefore, finds_periods}
use Rattle.mds_store.proofs.periods.periods_of.Goals as goal

pub returns-in_err-rows : goal.returns-in_err-rows
returns-in_err-rows g c layout =
    let ready = steady layout (rw c.in_ok-or_unavailable.ensures at c.ready.ensures.ok) c.ready.ensures.survives c.ready.ensures.mode in
    refused (tables_held layout (state g.S.Store c.args.conn.now)) ready _ (c.period_rows.ensures layout) c.in_err-rows.ensures _ _
    c.from_residual-in_err-rows.ensures.1

pub returns : goal.returns
returns g c layout =
    let rows = c.in_ok-rows.rows.items in
    let ready = steady layout (rw c.in_ok-or_unavailable.ensures at c.ready.ensures.ok) c.ready.ensures.survives c.ready.ensures.mode in
    let asked = and_then ready (rw c.in_ok-rows.ensures at (c.period_rows.ensures layout)) in
    answers (tables_held layout (state g.S.Store c.args.conn.now)) asked c.all_periods.result
    (λ known. with_both c.all_periods.result (λ periods. ArePeriodsIn rows periods.items) (λ periods. AllPairs IsBefore periods.items) _
    (λ periods. finds_periods layout c.args.stream.now _ known.0 rows known.1 periods.items)
    (rw c.deref.ensures.value at c.all_periods.ensures.each)
    c.all_periods.ensures.ascending)

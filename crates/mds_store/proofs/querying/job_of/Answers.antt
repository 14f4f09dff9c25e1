use Rattle.std.proofs.lemmas.Result.{IfOk-weaker}
use Rattle.sqlite.specs.Held.{state}
use Rattle.mds_tables.proofs.Asked.{and_then, answers, refused, steady, tables_held}
use Rattle.mds_store.specs.Said.{IsOnlyJob}
use Rattle.mds_store.proofs.Listed.{finds_job}
use Rattle.mds_store.proofs.querying.job_of.Goals as goal

pub returns-in_err-rows : goal.returns-in_err-rows
returns-in_err-rows g c layout =
    let ready = steady layout (rw c.in_ok-or_unavailable.ensures at c.ready.ensures.ok) c.ready.ensures.survives c.ready.ensures.mode in
    refused (tables_held layout (state g.S.Store c.args.conn.now)) ready _ (c.job_rows.ensures layout) c.in_err-rows.ensures _ _
    c.from_residual-in_err-rows.ensures.1

pub returns : goal.returns
returns g c layout =
    let rows = c.in_ok-rows.rows.items in
    let ready = steady layout (rw c.in_ok-or_unavailable.ensures at c.ready.ensures.ok) c.ready.ensures.survives c.ready.ensures.mode in
    let asked = and_then ready (rw c.in_ok-rows.ensures at (c.job_rows.ensures layout)) in
    answers (tables_held layout (state g.S.Store c.args.conn.now)) asked c.only_job.result
    (λ known. IfOk-weaker c.only_job.result (IsOnlyJob c.args.id rows) _
    (finds_job layout _ known.0 c.args.id rows known.1)
    (rw c.deref.ensures.value at c.only_job.ensures))

use Rattle.std.proofs.Common.{◌≡◌, ◌<◌, length, arith, ap}
use Rattle.std.proofs.lemmas.Result.{err_from_is_err_and}
use Rattle.mds_runs.proofs.CloseRuns.{some_run}
use Rattle.mds_runs.proofs.KeptLemmas.{kept-length-in}
use Rattle.mds_runs.proofs.day_readings.DayReadings.try_clone.Goals as goal

pub returns-in_err-millionths-clause-memory : goal.returns-in_err-millionths-clause-memory
returns-in_err-millionths-clause-memory c =
    let n = kept-length-in c.self.inside.runs.items c.self.inside.millionths.items c.args.self.now c.self.invariant c.self.view_is in
    let p = err_from_is_err_and c.from_residual.result c.from_residual.ensures.1 in
    let not_none : c.len.result ≡ 0 → ⊥ = λ e. let f = c.in_err-millionths.ensures.succeeds e in cc in
    let some : 0 < length c.args.self.now = omega (arith, n, c.self.inside.millionths.ok.0, c.len.ensures, not_none) in
    rw p.1 some

pub returns-in_err-runs-clause-memory : goal.returns-in_err-runs-clause-memory
returns-in_err-runs-clause-memory c =
    let n = kept-length-in c.self.inside.runs.items c.self.inside.millionths.items c.args.self.now c.self.invariant c.self.view_is in
    let runs : 0 < length c.self.inside.runs.items = omega (arith, ap length c.deref-2.ensures.value, c.in_err-runs.ensures.memory) in
    let p = err_from_is_err_and c.from_residual-in_err-runs.result c.from_residual-in_err-runs.ensures.1 in
    let some : 0 < length c.args.self.now = omega (arith, n, some_run c.self.inside.runs.items (length c.self.inside.millionths.items) c.self.invariant.close runs) in
    rw p.1 some

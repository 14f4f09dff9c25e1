use Rattle.std.proofs.Common.{length}
use Rattle.std.proofs.lemmas.Result.{on_ok_weaker}
use Rattle.mds_export.proofs.Stretches.{fewest_runs, one_run}
use Rattle.mds_export.proofs.Writes.{day_of_one, day_of_several}
use Rattle.mds_export.proofs.writer.write_readings.Goals as goal

pub returns-then-runs-eq1-clause-done : goal.returns-then-runs-eq1-clause-done
returns-then-runs-eq1-clause-done c =
    let runs = c.runs-runs.result.now in
    let one = one_run runs c.index-runs-0.result c.if-runs-eq1.true in
    on_ok_weaker c.write_interval_data.result
    (day_of_one c.args.day.now runs _ _ _ (fewest_runs c.args.day.now.readings runs c.runs-runs.ensures) one)
    c.write_interval_data.ensures.done

pub returns-clause-done : goal.returns-clause-done
returns-clause-done c =
    let runs = c.runs-runs.result.now in
    on_ok_weaker c.write_runs.result
    (day_of_several c.args.day.now runs _ c.write_interval_data-2.new.out.items _ (fewest_runs c.args.day.now.readings runs c.runs-runs.ensures) c.if-runs-eq1.false
    c.in_ok-write_interval_data.ensures.done)
    c.write_runs.ensures.done

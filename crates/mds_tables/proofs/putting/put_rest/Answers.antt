use Rattle.std.proofs.lemmas.Result.{err_from_is_err_and}
use Rattle.mds_tables.proofs.ChangeLemmas.{behind, stopped}
use Rattle.mds_tables.proofs.PutLemmas.{rest_there}
use Rattle.mds_tables.proofs.putting.put_rest.Goals as goal

pub returns-clause-puts : goal.returns-clause-puts
returns-clause-puts g c more =
    let events = rw (c.deref.ensures.value) at (c.in_ok-put_events.ensures.puts more) in
    let periods = c.in_ok-put_all.ensures.puts more in
    let holidays = rw (c.deref-2.ensures.value) at (c.in_ok-put_all-2.ensures.puts more) in
    let jobs = c.put_all-3.ensures.puts more in
    behind events (λ last. last) (behind periods (λ last. last) (behind holidays
    (rest_there more _ _ _ _ _ c.args.additions.now c.args.periods.now c.args.jobs.now periods.survives.clean
    holidays.survives.clean jobs.survives.clean events.ok periods.ok holidays.ok) jobs))

pub returns-in_err-put_events-clause-puts : goal.returns-in_err-put_events-clause-puts
returns-in_err-put_events-clause-puts g c more =
    let p = err_from_is_err_and c.from_residual.result c.from_residual.ensures.1 in
    rw (p.1, p.2) (stopped _ (rw (c.deref.ensures.value) at (c.in_err-put_events.ensures.puts more)))

pub returns-in_err-put_all-clause-puts : goal.returns-in_err-put_all-clause-puts
returns-in_err-put_all-clause-puts g c more =
    let p = err_from_is_err_and c.from_residual-in_err-put_all.result c.from_residual-in_err-put_all.ensures.1 in
    rw (p.1, p.2)
    (behind (rw (c.deref.ensures.value) at (c.in_ok-put_events.ensures.puts more)) (λ last. last)
    (stopped _ (c.in_err-put_all.ensures.puts more)))

pub returns-in_err-put_all-2-clause-puts : goal.returns-in_err-put_all-2-clause-puts
returns-in_err-put_all-2-clause-puts g c more =
    let p = err_from_is_err_and c.from_residual-in_err-put_all-2.result c.from_residual-in_err-put_all-2.ensures.1 in
    rw (p.1, p.2)
    (behind (rw (c.deref.ensures.value) at (c.in_ok-put_events.ensures.puts more)) (λ last. last)
    (behind (c.in_ok-put_all.ensures.puts more) (λ last. last)
    (stopped _ (rw (c.deref-2.ensures.value) at (c.in_err-put_all-2.ensures.puts more)))))

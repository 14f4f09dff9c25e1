use Rattle.std.proofs.Common.{ap}
use Rattle.std.proofs.lemmas.Result.{err_from_is_err_and}
use Rattle.sqlite.specs.Held.{state}
use Rattle.mds_tables.proofs.CallLemmas.{still}
use Rattle.mds_tables.proofs.ChangeLemmas.{rows_fail, rows_put}
use Rattle.mds_tables.proofs.PutLemmas.{fails_event, puts_event, takes_event}
use Rattle.mds_tables.proofs.putting.put_event.Goals as goal

pub returns-in_err-execute-clause-puts : goal.returns-in_err-execute-clause-puts
returns-in_err-execute-clause-puts g c more =
    let p = err_from_is_err_and c.from_residual.result c.from_residual.ensures.1 in
    rw (p.1, p.2)
    (rows_fail _ _ c.execute.result (λ over. ap (state g.S.Store) (c.execute.ensures.ended over).1) c.execute.ensures.runs c.execute.ensures.survives
    (λ clean inside has. fails_event more _ _ c.args.event.now _ has
    (rw (c.event_cells.ensures) at (c.in_err-execute.ensures.runs clean inside))))

pub returns-clause-puts : goal.returns-clause-puts
returns-clause-puts g c more =
    rows_put _ _ c.execute.result (λ over. ap (state g.S.Store) (c.execute.ensures.ended over).1) c.execute.ensures.runs c.execute.ensures.survives
    (puts_event more _ _ c.args.event.now c.in_ok-execute.field-0
    (λ clean. rw (c.event_cells.ensures) at (c.in_ok-execute.ensures.runs clean (still _ _ _ _ c.execute.ensures.ended c.in_ok-execute.was))))
    (λ clean has. takes_event more _ _ c.args.event.now c.in_ok-execute.field-0 has (rw (c.event_cells.ensures) at (c.in_ok-execute.ensures.runs clean (still _ _ _ _ c.execute.ensures.ended c.in_ok-execute.was))))

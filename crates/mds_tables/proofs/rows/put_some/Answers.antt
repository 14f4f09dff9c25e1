use Rattle.std.proofs.Common.{◌≡◌, ap, ◌∙◌}
use Rattle.std.proofs.lemmas.Result.{err_from_is_err_and}
use Rattle.sqlite.specs.Held.{state}
use Rattle.sqlite.specs.Values.{bound}
use Rattle.mds_tables.proofs.CallLemmas.{still}
use Rattle.mds_tables.proofs.ChangeLemmas.{rows_fail, rows_put}
use Rattle.mds_tables.proofs.TabledLemmas.{fails_some, given_so, puts_some, ran_out, takes_some, values}
use Rattle.mds_tables.proofs.rows.put_some.Goals as goal

pub returns-in_err-cells-clause-puts : goal.returns-in_err-cells-clause-puts
returns-in_err-cells-clause-puts g c rest ins =
    let p = err_from_is_err_and c.from_residual.result c.from_residual.ensures.1 in
    rw (p.1, p.2) (ran_out (state g.S.Store c.args.tx.now.conn.now))

pub returns-in_err-execute-clause-puts : goal.returns-in_err-execute-clause-puts
returns-in_err-execute-clause-puts g c rest ins =
    let p = err_from_is_err_and c.from_residual-in_err-execute.result c.from_residual-in_err-execute.ensures.1 in
    let t = g.T.Tabled.tabling c.args.with.now in
    let it = g.met.T.Tabled.is c.args.with.now rest in
    let items = c.args.items.now in
    let given : bound c.as_slice.result.now ≡ values t rest it c.args.text.now items ins =
    given_so t rest it c.args.text.now items ins _ (ap bound c.as_slice.ensures.value ∙ c.in_ok-cells.ensures) in
    rw (p.1, p.2)
    (rows_fail _ _ c.execute.result (λ over. ap (state g.S.Store) (c.execute.ensures.ended over).1) c.execute.ensures.runs c.execute.ensures.survives
    (λ clean inside has. fails_some t rest it c.args.text.now items ins c.requires.some _ _ _ has
    (rw given at (c.in_err-execute.ensures.runs clean inside))))

pub returns-clause-puts : goal.returns-clause-puts
returns-clause-puts g c rest ins =
    let t = g.T.Tabled.tabling c.args.with.now in
    let it = g.met.T.Tabled.is c.args.with.now rest in
    let items = c.args.items.now in
    let given : bound c.as_slice.result.now ≡ values t rest it c.args.text.now items ins =
    given_so t rest it c.args.text.now items ins _ (ap bound c.as_slice.ensures.value ∙ c.in_ok-cells.ensures) in
    rows_put _ _ c.execute.result (λ over. ap (state g.S.Store) (c.execute.ensures.ended over).1) c.execute.ensures.runs c.execute.ensures.survives
    (puts_some t rest it c.args.text.now items ins _ _ c.in_ok-execute.field-0
    (λ clean. rw given at (c.in_ok-execute.ensures.runs clean (still _ _ _ _ c.execute.ensures.ended c.in_ok-execute.was))))
    (λ clean has. takes_some t rest it c.args.text.now items ins c.requires.some _ _ c.in_ok-execute.field-0 has
    (rw given at (c.in_ok-execute.ensures.runs clean (still _ _ _ _ c.execute.ensures.ended c.in_ok-execute.was))))

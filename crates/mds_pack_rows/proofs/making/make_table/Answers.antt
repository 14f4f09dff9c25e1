use Rattle.std.proofs.Common.{ap}
use Rattle.std.proofs.lemmas.Result.{err_from_is_err_and}
use Rattle.sqlite.specs.Held.{state}
use Rattle.mds_tables.proofs.CallLemmas.{keeps, still}
use Rattle.mds_pack_rows.proofs.Creates.{nth_fails, nth_makes, nth_there}
use Rattle.mds_pack_rows.proofs.making.make_table.Goals as goal

pub returns-in_err-execute-clause-cause : goal.returns-in_err-execute-clause-cause
returns-in_err-execute-clause-cause g c clean inside has =
    let p = err_from_is_err_and c.from_residual.result c.from_residual.ensures.1 in
    rw (p.1, p.2)
    (nth_fails c.args.n c.requires (state g.S.Store c.args.tx.now.conn.now) (state g.S.Store c.execute.new.self.conn.now) _
    has (rw (c.statement.ensures) at (c.in_err-execute.ensures.runs clean inside)))

pub returns-clause-ok : goal.returns-clause-ok
returns-clause-ok g c =
    nth_there c.args.n c.requires (state g.S.Store c.args.tx.now.conn.now) (state g.S.Store c.execute.new.self.conn.now)
    c.in_ok-execute.field-0
    (λ clean. rw (c.statement.ensures) at (c.in_ok-execute.ensures.runs clean
    (still _ _ _ _ c.execute.ensures.ended c.in_ok-execute.was)))

pub returns-in_err-execute-clause-kept : goal.returns-in_err-execute-clause-kept
returns-in_err-execute-clause-kept g c clean =
    keeps (state g.S.Store c.args.tx.now.conn.now) (state g.S.Store c.execute.new.self.conn.now) _ _ c.execute.result
    (λ over. ap (state g.S.Store) (c.execute.ensures.ended over).1) (c.execute.ensures.runs clean)

pub returns-clause-kept : goal.returns-clause-kept
returns-clause-kept g c clean =
    keeps (state g.S.Store c.args.tx.now.conn.now) (state g.S.Store c.execute.new.self.conn.now) _ _ c.execute.result
    (λ over. ap (state g.S.Store) (c.execute.ensures.ended over).1) (c.execute.ensures.runs clean)

pub returns-clause-makes : goal.returns-clause-makes
returns-clause-makes g c clean is_open has =
    nth_makes c.args.n c.requires (state g.S.Store c.args.tx.now.conn.now) (state g.S.Store c.execute.new.self.conn.now) c.in_ok-execute.field-0 has
    (rw (c.statement.ensures) at (c.in_ok-execute.ensures.runs clean (still _ _ _ _ c.execute.ensures.ended c.in_ok-execute.was)))

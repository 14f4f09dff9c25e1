use Rattle.std.proofs.Common.{ap, w64}
use Rattle.std.proofs.lemmas.Int.{to_z-of_z}
use Rattle.std.proofs.lemmas.Result.{err_from_is_err_and}
use Rattle.sqlite.specs.Held.{state}
use Rattle.mds_tables.proofs.CallLemmas.{keeps, still}
use Rattle.mds_tables.proofs.SayLemmas.{says_version}
use Rattle.mds_tables.proofs.SayRefusals.{says_fails}
use Rattle.mds_tables.proofs.making.say_version.Goals as goal

pub returns-in_err-execute-clause-cause : goal.returns-in_err-execute-clause-cause
returns-in_err-execute-clause-cause g c clean is_open inside layout is has none =
    let p = err_from_is_err_and c.from_residual.result c.from_residual.ensures.1 in
    rw (p.1, p.2)
    (says_fails layout (state g.S.Store c.args.tx.now.conn.now) (state g.S.Store c.execute.new.self.conn.now) _ has none
    (rw (to_z-of_z w64 c.args.number c.ranges.number, is) at (c.in_err-execute.ensures.runs clean inside)))

pub returns-clause-ok : goal.returns-clause-ok
returns-clause-ok g c layout is =
    says_version layout (state g.S.Store c.args.tx.now.conn.now) (state g.S.Store c.execute.new.self.conn.now)
    c.in_ok-execute.field-0
    (λ clean. rw (to_z-of_z w64 c.args.number c.ranges.number, is) at (c.in_ok-execute.ensures.runs clean (still _ _ _ _ c.execute.ensures.ended c.in_ok-execute.was)))

pub returns-in_err-execute-clause-kept : goal.returns-in_err-execute-clause-kept
returns-in_err-execute-clause-kept g c clean =
    keeps (state g.S.Store c.args.tx.now.conn.now) (state g.S.Store c.execute.new.self.conn.now) _ _ c.execute.result
    (λ over. ap (state g.S.Store) (c.execute.ensures.ended over).1) (c.execute.ensures.runs clean)

pub returns-clause-kept : goal.returns-clause-kept
returns-clause-kept g c clean =
    keeps (state g.S.Store c.args.tx.now.conn.now) (state g.S.Store c.execute.new.self.conn.now) _ _ c.execute.result
    (λ over. ap (state g.S.Store) (c.execute.ensures.ended over).1) (c.execute.ensures.runs clean)

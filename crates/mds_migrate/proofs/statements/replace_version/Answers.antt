use Rattle.std.proofs.Common.{◌≡◌, [], ◌∷◌, Ok, ap, of_z, rules, subst, to_z, to_z-of_z, w64, refl}
use Rattle.sqlite.specs.Held.{state}
use Rattle.sqlite.specs.State.{ExecutesInside}
use Rattle.sqlite.specs.declared.types.Value.TheVariants.{Int}
use Rattle.mds_tables.proofs.CallLemmas.{keeps, still, keeps_same, survives_same}
use Rattle.mds_migrate.proofs.StatementLemmas.{raises_row}
use Rattle.mds_migrate.proofs.StatementTexts.{update_version}
use Rattle.std.proofs.lemmas.Result.{IfOk-from_err}
use Rattle.mds_pack_rows.proofs.PutLemmas.{ran_on}
use Rattle.mds_migrate.proofs.statements.replace_version.Goals as goal

pub returns-clause-ok : goal.returns-clause-ok
returns-clause-ok g c =
    let old = state g.S.Store c.args.tx.now.conn.now in
    let new = state g.S.Store c.execute.new.self.conn.now in
    let same : to_z w64 (of_z w64 c.in_ok-id.id) ≡ c.in_ok-id.id = to_z-of_z {w = w64} {z = c.in_ok-id.id} (search rules) in
    let says : to_z w64 (of_z w64 c.args.number) ≡ c.args.number = to_z-of_z {w = w64} {z = c.args.number} (search rules) in
    raises_row c.in_ok-id.id c.args.number old new c.args.shown.now (rw c.in_ok-id.ensures at c.int_at.ensures.some)
    (λ clean. subst (λ n. ExecutesInside 0 update_version (Int c.in_ok-id.id ∷ Int c.args.number ∷ []) old new (Ok n)) c.if-not-is_replaced.false
    (rw (c.in_ok-count.ensures, c.id_cells.ensures, same, says) at (c.execute.ensures.runs clean (still _ _ _ _ c.execute.ensures.ended c.in_ok-count.ensures))))

pub returns-in_err-count-clause-kept : goal.returns-in_err-count-clause-kept
returns-in_err-count-clause-kept g c clean =
    keeps (state g.S.Store c.args.tx.now.conn.now) (state g.S.Store c.execute.new.self.conn.now) _ _ c.execute.result
    (λ over. ap (state g.S.Store) (c.execute.ensures.ended over).1) (c.execute.ensures.runs clean)

pub returns-in_err-id-clause-same_reference : goal.returns-in_err-id-clause-same_reference
returns-in_err-id-clause-same_reference g c = refl

pub returns-in_err-id-clause-goes_on : goal.returns-in_err-id-clause-goes_on
returns-in_err-id-clause-goes_on g c = IfOk-from_err c.from_residual.result _ c.from_residual.ensures.0

pub returns-in_err-id-clause-ok : goal.returns-in_err-id-clause-ok
returns-in_err-id-clause-ok g c = IfOk-from_err c.from_residual.result _ c.from_residual.ensures.0

pub returns-in_err-id-clause-kept : goal.returns-in_err-id-clause-kept
returns-in_err-id-clause-kept g c = λ _. keeps_same (state g.S.Store c.args.tx.now.conn.now)

pub returns-in_err-id-clause-survives : goal.returns-in_err-id-clause-survives
returns-in_err-id-clause-survives g c = survives_same (state g.S.Store c.args.tx.now.conn.now)

pub returns-in_err-count-clause-same_reference : goal.returns-in_err-count-clause-same_reference
returns-in_err-count-clause-same_reference g c = c.execute.ensures.same_reference

pub returns-in_err-count-clause-goes_on : goal.returns-in_err-count-clause-goes_on
returns-in_err-count-clause-goes_on g c = IfOk-from_err c.from_residual-in_err-count.result _ c.from_residual-in_err-count.ensures.0

pub returns-in_err-count-clause-ok : goal.returns-in_err-count-clause-ok
returns-in_err-count-clause-ok g c = IfOk-from_err c.from_residual-in_err-count.result _ c.from_residual-in_err-count.ensures.0

pub returns-in_err-count-clause-survives : goal.returns-in_err-count-clause-survives
returns-in_err-count-clause-survives g c = c.execute.ensures.survives

pub returns-then-not-is_replaced-clause-same_reference : goal.returns-then-not-is_replaced-clause-same_reference
returns-then-not-is_replaced-clause-same_reference g c = c.execute.ensures.same_reference

pub returns-then-not-is_replaced-clause-goes_on : goal.returns-then-not-is_replaced-clause-goes_on
returns-then-not-is_replaced-clause-goes_on g c = tt

pub returns-then-not-is_replaced-clause-ok : goal.returns-then-not-is_replaced-clause-ok
returns-then-not-is_replaced-clause-ok g c = tt

pub returns-then-not-is_replaced-clause-kept : goal.returns-then-not-is_replaced-clause-kept
returns-then-not-is_replaced-clause-kept g c clean =
    keeps (state g.S.Store c.args.tx.now.conn.now) (state g.S.Store c.execute.new.self.conn.now) _ _ c.execute.result
    (λ over. ap (state g.S.Store) (c.execute.ensures.ended over).1) (c.execute.ensures.runs clean)

pub returns-then-not-is_replaced-clause-survives : goal.returns-then-not-is_replaced-clause-survives
returns-then-not-is_replaced-clause-survives g c = c.execute.ensures.survives

pub returns-clause-same_reference : goal.returns-clause-same_reference
returns-clause-same_reference g c = c.execute.ensures.same_reference

pub returns-clause-kept : goal.returns-clause-kept
returns-clause-kept g c clean =
    keeps (state g.S.Store c.args.tx.now.conn.now) (state g.S.Store c.execute.new.self.conn.now) _ _ c.execute.result
    (λ over. ap (state g.S.Store) (c.execute.ensures.ended over).1) (c.execute.ensures.runs clean)

pub returns-clause-survives : goal.returns-clause-survives
returns-clause-survives g c = c.execute.ensures.survives

pub returns-clause-goes_on : goal.returns-clause-goes_on
returns-clause-goes_on g c =
    ran_on update_version _ _ (state g.S.Store c.args.tx.now.conn.now) (state g.S.Store c.execute.new.self.conn.now)
    (λ clean. rw c.in_ok-count.ensures at (c.execute.ensures.runs clean (still _ _ _ _ c.execute.ensures.ended c.in_ok-count.ensures)))

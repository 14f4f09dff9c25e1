use Rattle.std.proofs.Common.{◌≡◌, [], ◌∷◌, Ok, ap, rules, subst, to_z-of_z, w64}
use Rattle.sqlite.specs.Held.{state}
use Rattle.sqlite.specs.State.{ExecutesInside}
use Rattle.sqlite.specs.declared.types.Value.TheVariants.{Blob, Int}
use Rattle.mds_tables.proofs.CallLemmas.{keeps, still}
use Rattle.mds_pack_rows.proofs.PackTexts.{update_body}
use Rattle.mds_pack_rows.proofs.PutLemmas.{replaces_there}
use Rattle.mds_pack_rows.proofs.statements.replace_body.Goals as goal

pub returns-clause-ok : goal.returns-clause-ok
returns-clause-ok g c =
    let old = state g.S.Store c.args.tx.now.conn.now in
    let new = state g.S.Store c.execute.new.self.conn.now in
    let one : c.in_ok-count.count ≡ 1 = search rules in
    replaces_there c.args.id c.args.body.now old new
    (λ clean. subst (λ n. ExecutesInside 0 update_body (Int c.args.id ∷ Blob c.args.body.now ∷ []) old new (Ok n)) one
    (rw (c.in_ok-count.ensures, c.body_cells.ensures, to_z-of_z {w = w64} {z = c.args.id} c.ranges.id) at (c.execute.ensures.runs clean (still _ _ _ _ c.execute.ensures.ended c.in_ok-count.ensures))))

pub returns-in_err-count-clause-kept : goal.returns-in_err-count-clause-kept
returns-in_err-count-clause-kept g c clean =
    keeps (state g.S.Store c.args.tx.now.conn.now) (state g.S.Store c.execute.new.self.conn.now) _ _ c.execute.result
    (λ over. ap (state g.S.Store) (c.execute.ensures.ended over).1) (c.execute.ensures.runs clean)

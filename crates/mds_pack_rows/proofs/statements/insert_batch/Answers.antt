use Rattle.std.proofs.Common.{◌≡◌, ap, false, refl, ◌∙◌}
use Rattle.std.proofs.lemmas.Result.{IfOk-from_err}
use Rattle.std.specs.List.{flat_map}
use Rattle.sqlite.specs.Held.{state}
use Rattle.sqlite.specs.Values.{bound}
use Rattle.mds_pack_rows.proofs.PassLemmas.{none_put, put_ok, told_ok}
use Rattle.mds_pack_rows.proofs.RefusedLemmas.{itself, untouched}
use Rattle.mds_tables.proofs.CallLemmas.{keeps, keeps_same, still, survives_same}
use Rattle.mds_pack_rows.specs.Batches.{columns_of}
use Rattle.mds_pack_rows.specs.FailureSteps.{is_store_error}
use Rattle.mds_pack_rows.proofs.BatchLemmas.{batch_there, none_there}
use Rattle.mds_pack_rows.proofs.statements.insert_batch.Goals as goal

pub returns-clause-put : goal.returns-clause-put
returns-clause-put g c =
    let given : bound c.as_slice.result.now ≡ flat_map columns_of c.args.rows.now =
    ap bound c.as_slice.ensures.value ∙ c.in_ok-cells.ensures in
    told_ok _ c.or_unavailable.result c.are_taken.result c.or_unavailable.ensures
    (λ put is yes.
    put_ok c.execute.result ((rw is at c.are_taken.ensures.put) yes)
    (λ count ran.
    batch_there c.args.rows.now c.requires.count count (state g.S.Store c.args.tx.now.conn.now) (state g.S.Store c.execute.new.self.conn.now)
    c.requires.some
    (λ clean. rw (ran, given) at (c.execute.ensures.runs clean (still _ _ _ _ c.execute.ensures.ended ran)))))

pub returns-clause-none : goal.returns-clause-none
returns-clause-none g c =
    let old = state g.S.Store c.args.tx.now.conn.now in
    let new = state g.S.Store c.execute.new.self.conn.now in
    told_ok _ c.or_unavailable.result c.are_taken.result c.or_unavailable.ensures
    (λ put is no.
    none_there old new (λ clean.
    none_put (λ e. is_store_error e ≡ false) c.execute.result ((rw is at c.are_taken.ensures.none) no)
    (untouched _ _ old new c.execute.result clean (λ over. rw (c.execute.ensures.ended over).1 (itself old)) c.execute.ensures.runs)))

pub returns-clause-same_reference : goal.returns-clause-same_reference
returns-clause-same_reference g c = c.execute.ensures.same_reference

pub returns-clause-kept : goal.returns-clause-kept
returns-clause-kept g c clean =
    keeps (state g.S.Store c.args.tx.now.conn.now) (state g.S.Store c.execute.new.self.conn.now) _ _ c.execute.result
    (λ over. ap (state g.S.Store) (c.execute.ensures.ended over).1) (c.execute.ensures.runs clean)

pub returns-clause-survives : goal.returns-clause-survives
returns-clause-survives g c = c.execute.ensures.survives

pub returns-in_err-cells-clause-same_reference : goal.returns-in_err-cells-clause-same_reference
returns-in_err-cells-clause-same_reference g c = refl

pub returns-in_err-cells-clause-put : goal.returns-in_err-cells-clause-put
returns-in_err-cells-clause-put g c = IfOk-from_err c.from_residual.result _ c.from_residual.ensures.0

pub returns-in_err-cells-clause-none : goal.returns-in_err-cells-clause-none
returns-in_err-cells-clause-none g c = IfOk-from_err c.from_residual.result _ c.from_residual.ensures.0

pub returns-in_err-cells-clause-kept : goal.returns-in_err-cells-clause-kept
returns-in_err-cells-clause-kept g c clean = keeps_same (state g.S.Store c.args.tx.now.conn.now)

pub returns-in_err-cells-clause-survives : goal.returns-in_err-cells-clause-survives
returns-in_err-cells-clause-survives g c = survives_same (state g.S.Store c.args.tx.now.conn.now)

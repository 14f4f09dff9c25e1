use Rattle.std.proofs.Common.{◌≡◌, IfSome, ap, length, refl, subst, sym, ◌∙◌}
use Rattle.std.specs.List.{flat_map}
use Rattle.std.proofs.lemmas.Result.{IfOk-from_err}
use Rattle.sqlite.specs.Held.{state}
use Rattle.mds_tables.proofs.RowLemmas.{of}
use Rattle.mds_tables.proofs.CallLemmas.{keeps_same, survives_same}
use Rattle.mds_pack_rows.specs.Batches.{SayDays, SaySome, said_by}
use Rattle.mds_pack_rows.proofs.BatchLemmas.{put_as}
use Rattle.mds_pack_rows.proofs.PutLemmas.{puts_none}
use Rattle.mds_pack_rows.proofs.batches.put_at_once.Goals as goal

pub returns-in_default-clause-none : goal.returns-in_default-clause-none
returns-in_default-clause-none g c _ = puts_none (state g.S.Store c.args.tx.now.conn.now)

pub insert_batch-requires : goal.insert_batch-requires
insert_batch-requires g c = record {
  count = ap length c.as_slice.ensures.value
      ∙ subst (λ o. IfSome o (λ rows. length rows.items ≡ length c.args.days.now)) c.in-Some.is c.in_ok-rows.ensures.len
      ∙ c.type_inv.days;
  some = subst SaySome (sym c.as_slice.ensures.value) (subst (λ o. IfSome o (λ rows. SaySome rows.items)) c.in-Some.is c.in_ok-rows.ensures.some);
}

pub returns-clause-put : goal.returns-clause-put
returns-clause-put g c =
    let say : SayDays c.in-Some.rows.items c.args.days.now =
    subst (λ o. IfSome o (λ rows. SayDays rows.items c.args.days.now)) c.in-Some.is c.in_ok-rows.ensures.says in
    put_as c.insert_batch.result (state g.S.Store c.args.tx.now.conn.now) (state g.S.Store c.insert_batch.new.tx.conn.now) _ _
    (ap (λ rows. of (flat_map said_by rows)) c.as_slice.ensures.value ∙ say) c.insert_batch.ensures.put

pub returns-in_err-rows-clause-same_reference : goal.returns-in_err-rows-clause-same_reference
returns-in_err-rows-clause-same_reference g c = refl

pub returns-in_err-rows-clause-put : goal.returns-in_err-rows-clause-put
returns-in_err-rows-clause-put g c = IfOk-from_err c.from_residual.result _ c.from_residual.ensures.0

pub returns-in_err-rows-clause-none : goal.returns-in_err-rows-clause-none
returns-in_err-rows-clause-none g c = IfOk-from_err c.from_residual.result _ c.from_residual.ensures.0

pub returns-in_err-rows-clause-kept : goal.returns-in_err-rows-clause-kept
returns-in_err-rows-clause-kept g c clean = keeps_same (state g.S.Store c.args.tx.now.conn.now)

pub returns-in_err-rows-clause-survives : goal.returns-in_err-rows-clause-survives
returns-in_err-rows-clause-survives g c = survives_same (state g.S.Store c.args.tx.now.conn.now)

pub returns-in_default-clause-same_reference : goal.returns-in_default-clause-same_reference
returns-in_default-clause-same_reference g c = refl

pub returns-in_default-clause-kept : goal.returns-in_default-clause-kept
returns-in_default-clause-kept g c clean = keeps_same (state g.S.Store c.args.tx.now.conn.now)

pub returns-in_default-clause-survives : goal.returns-in_default-clause-survives
returns-in_default-clause-survives g c = survives_same (state g.S.Store c.args.tx.now.conn.now)

pub returns-clause-same_reference : goal.returns-clause-same_reference
returns-clause-same_reference g c = c.insert_batch.ensures.same_reference

pub returns-clause-none : goal.returns-clause-none
returns-clause-none g c = c.insert_batch.ensures.none

pub returns-clause-kept : goal.returns-clause-kept
returns-clause-kept g c = c.insert_batch.ensures.kept

pub returns-clause-survives : goal.returns-clause-survives
returns-clause-survives g c = c.insert_batch.ensures.survives

use Rattle.std.proofs.Common.{◌≡◌, Some, arith, ap, sym, ◌∙◌, option_map, length, refl, rules, of_z, to_z, to_z-of_z, w64}
use Rattle.std.proofs.lemmas.Result.{IfOk-from_err}
use Rattle.std.specs.Prelude.{IsTrue}
use Rattle.sqlite.specs.Held.{state}
use Rattle.sqlite.specs.declared.types.Value.TheVariants.{Int}
use Rattle.sqlite_value.specs.Order.{column}
use Rattle.mds_packs.proofs.Whole.{any_held}
use Rattle.mds_tables.proofs.CallLemmas.{keeps_same, survives_same}
use Rattle.mds_pack_rows.specs.Laying.{laid}
use Rattle.mds_pack_rows.specs.PackFacts.{IsSaidAt, readings_in}
use Rattle.mds_pack_rows.proofs.BodyLemmas.{says}
use Rattle.mds_pack_rows.proofs.LaidLemmas.{laid_length, laid_some}
use Rattle.mds_pack_rows.proofs.PutLemmas.{if_ok, lays_there}
use Rattle.mds_pack_rows.proofs.putting.lay_over.Goals as goal

pub pack_day-requires : goal.pack_day-requires
pack_day-requires g c =
    let made : laid c.as_slice.result.now c.args.readings.now ≡ Some c.in-Some.all.items =
    sym c.in_ok-all.ensures ∙ ap (option_map (λ v. v.items)) c.in-Some.is in
    record { few = omega (arith, ap length c.as_slice-2.ensures.value, laid_length c.as_slice.result.now c.args.readings.now c.in-Some.all.items made, c.requires.few) }

pub returns-clause-ok : goal.returns-clause-ok
returns-clause-ok g c =
    let news = c.args.readings.now in
    let olds = c.as_slice.result.now in
    let all = c.as_slice-2.result.now in
    let id = c.in_ok-id.id in
    let has_id : column c.args.shown.now 0 ≡ Int id = rw c.in_ok-id.ensures at c.int_at.ensures.some in
    let said : IsSaidAt c.args.shown.now 1 c.in_ok-olds.olds.items = rw c.in_ok-olds.ensures at c.in_ok-readings_at.ensures.says in
    let was : readings_in said.0 ≡ Some olds = said.2 ∙ ap Some (sym c.as_slice.ensures.value) in
    let made : laid olds news ≡ Some all =
    sym c.in_ok-all.ensures ∙ ap (option_map (λ v. v.items)) c.in-Some.is ∙ ap Some (sym c.as_slice-2.ensures.value) in
    let some : IsTrue (any_held all) = laid_some olds news all made c.requires.some in
    let is : readings_in c.as_slice-3.result.now ≡ Some all =
    ap readings_in c.as_slice-3.ensures.value ∙ says (length all) c.in_ok-body.body.items all (c.in_ok-body.ensures.back some) in
    let same : to_z w64 (of_z w64 id) ≡ id = to_z-of_z {w = w64} {z = id} (search rules) in
    if_ok c.replace_body.result _ _
    (lays_there (state g.S.Store c.args.tx.now.conn.now) (state g.S.Store c.replace_body.new.tx.conn.now) id c.args.shown.now
    said.0 c.as_slice-3.result.now olds news all has_id said.1 was is made c.requires.some)
    (rw same at c.replace_body.ensures.ok)

pub returns-in_err-id-clause-same_reference : goal.returns-in_err-id-clause-same_reference
returns-in_err-id-clause-same_reference g c = refl

pub returns-in_err-id-clause-ok : goal.returns-in_err-id-clause-ok
returns-in_err-id-clause-ok g c = IfOk-from_err c.from_residual.result _ c.from_residual.ensures.0

pub returns-in_err-id-clause-kept : goal.returns-in_err-id-clause-kept
returns-in_err-id-clause-kept g c there = keeps_same (state g.S.Store c.args.tx.now.conn.now)

pub returns-in_err-id-clause-survives : goal.returns-in_err-id-clause-survives
returns-in_err-id-clause-survives g c = survives_same (state g.S.Store c.args.tx.now.conn.now)

pub returns-in_err-readings_at-clause-same_reference : goal.returns-in_err-readings_at-clause-same_reference
returns-in_err-readings_at-clause-same_reference g c = refl

pub returns-in_err-readings_at-clause-ok : goal.returns-in_err-readings_at-clause-ok
returns-in_err-readings_at-clause-ok g c = IfOk-from_err c.from_residual-in_err-readings_at.result _ c.from_residual-in_err-readings_at.ensures.0

pub returns-in_err-readings_at-clause-kept : goal.returns-in_err-readings_at-clause-kept
returns-in_err-readings_at-clause-kept g c there = keeps_same (state g.S.Store c.args.tx.now.conn.now)

pub returns-in_err-readings_at-clause-survives : goal.returns-in_err-readings_at-clause-survives
returns-in_err-readings_at-clause-survives g c = survives_same (state g.S.Store c.args.tx.now.conn.now)

pub returns-in_err-olds-clause-same_reference : goal.returns-in_err-olds-clause-same_reference
returns-in_err-olds-clause-same_reference g c = refl

pub returns-in_err-olds-clause-ok : goal.returns-in_err-olds-clause-ok
returns-in_err-olds-clause-ok g c = IfOk-from_err c.from_residual-in_err-olds.result _ c.from_residual-in_err-olds.ensures.0

pub returns-in_err-olds-clause-kept : goal.returns-in_err-olds-clause-kept
returns-in_err-olds-clause-kept g c there = keeps_same (state g.S.Store c.args.tx.now.conn.now)

pub returns-in_err-olds-clause-survives : goal.returns-in_err-olds-clause-survives
returns-in_err-olds-clause-survives g c = survives_same (state g.S.Store c.args.tx.now.conn.now)

pub returns-in_err-all-clause-same_reference : goal.returns-in_err-all-clause-same_reference
returns-in_err-all-clause-same_reference g c = refl

pub returns-in_err-all-clause-ok : goal.returns-in_err-all-clause-ok
returns-in_err-all-clause-ok g c = IfOk-from_err c.from_residual-in_err-all.result _ c.from_residual-in_err-all.ensures.0

pub returns-in_err-all-clause-kept : goal.returns-in_err-all-clause-kept
returns-in_err-all-clause-kept g c there = keeps_same (state g.S.Store c.args.tx.now.conn.now)

pub returns-in_err-all-clause-survives : goal.returns-in_err-all-clause-survives
returns-in_err-all-clause-survives g c = survives_same (state g.S.Store c.args.tx.now.conn.now)

pub returns-in_default-clause-same_reference : goal.returns-in_default-clause-same_reference
returns-in_default-clause-same_reference g c = refl

pub returns-in_default-clause-ok : goal.returns-in_default-clause-ok
returns-in_default-clause-ok g c = tt

pub returns-in_default-clause-kept : goal.returns-in_default-clause-kept
returns-in_default-clause-kept g c there = keeps_same (state g.S.Store c.args.tx.now.conn.now)

pub returns-in_default-clause-survives : goal.returns-in_default-clause-survives
returns-in_default-clause-survives g c = survives_same (state g.S.Store c.args.tx.now.conn.now)

pub returns-in_err-body-clause-same_reference : goal.returns-in_err-body-clause-same_reference
returns-in_err-body-clause-same_reference g c = refl

pub returns-in_err-body-clause-ok : goal.returns-in_err-body-clause-ok
returns-in_err-body-clause-ok g c = IfOk-from_err c.from_residual-in_err-body.result _ c.from_residual-in_err-body.ensures.0

pub returns-in_err-body-clause-kept : goal.returns-in_err-body-clause-kept
returns-in_err-body-clause-kept g c there = keeps_same (state g.S.Store c.args.tx.now.conn.now)

pub returns-in_err-body-clause-survives : goal.returns-in_err-body-clause-survives
returns-in_err-body-clause-survives g c = survives_same (state g.S.Store c.args.tx.now.conn.now)

pub returns-clause-same_reference : goal.returns-clause-same_reference
returns-clause-same_reference g c = c.replace_body.ensures.same_reference

pub returns-clause-kept : goal.returns-clause-kept
returns-clause-kept g c = c.replace_body.ensures.kept

pub returns-clause-survives : goal.returns-clause-survives
returns-clause-survives g c = c.replace_body.ensures.survives

use Rattle.std.proofs.Common.{option_map, arith, Bor, Option, None, Some, IfSome, IsTrue, Result, Ok, Err, OnOk}
use Rattle.std.proofs.lemmas.Result.{on_err_weaker, on_ok_weaker, err_from_is_err_and}
use Rattle.mds_quantity.proofs.Front.{on_err_from}
use Rattle.mds_export.proofs.Fields.{day_row, day_text}
use Rattle.mds_export.proofs.Begun.{begun_after}
use Rattle.mds_marks.specs.Mark.{is_mark}
use Rattle.mds_marks.specs.declared.mark.Mark.{Mark}
use Rattle.mds_export.proofs.row.write_day.Goals as goal

-- what holds anyway holds where all went well
on_ok_from : {T E : Type 0} → (r : Result T E) (P : Type 0) → P → OnOk r P
on_ok_from (Ok x) P p = p
on_ok_from (Err e) P p = tt

marked : (mark : Option (Bor Mark)) → IfSome mark (λ mark. IsTrue (is_mark mark.now))
    → IfSome (option_map (λ mark. mark.now) mark) (λ mark. IsTrue (is_mark mark))
marked None h = tt
marked (Some mark) h = h

pub returns-in_err-write_field-clause-full : goal.returns-in_err-write_field-clause-full
returns-in_err-write_field-clause-full c =
    let row = c.args.row.now in
    let text = day_text row.date row.update row.readings.now (option_map (λ mark. mark.now) row.mark) c.digits-date.result c.digits-update.result c.digits-date.ensures c.digits-update.ensures in
    on_err_from c.from_residual.result _ (text.0, text.1, omega (arith, text.2, c.in_err-write_field.ensures.full))

pub returns-in_err-write_field-2-clause-full : goal.returns-in_err-write_field-2-clause-full
returns-in_err-write_field-2-clause-full c =
    let row = c.args.row.now in
    let text = day_text row.date row.update row.readings.now (option_map (λ mark. mark.now) row.mark) c.digits-date.result c.digits-update.result c.digits-date.ensures c.digits-update.ensures in
    let first = c.in_ok-write_field.ensures in
    on_err_from c.from_residual-in_err-write_field-2.result _ (text.0, text.1, omega (arith, text.2, c.in_err-write_field-2.ensures.full, first.len, first.grows))

pub returns-in_err-write_values-clause-full : goal.returns-in_err-write_values-clause-full
returns-in_err-write_values-clause-full c =
    let row = c.args.row.now in
    let text = day_text row.date row.update row.readings.now (option_map (λ mark. mark.now) row.mark) c.digits-date.result c.digits-update.result c.digits-date.ensures c.digits-update.ensures in
    let first = c.in_ok-write_field.ensures in
    let second = c.in_ok-write_field-2.ensures in
    on_err_from c.from_residual-in_err-write_values.result _
    (text.0, text.1, omega (arith, text.2, c.in_err-write_values.ensures.full, first.len, first.grows, second.len, second.grows))

pub returns-clause-done : goal.returns-clause-done
returns-clause-done c =
    let row = c.args.row.now in
    on_ok_weaker c.write_own.result
    (day_row row.date row.update row.readings.now _ _ _ _ _ _ _ _ c.digits-date.ensures c.digits-update.ensures c.in_ok-write_field.ensures.done c.in_ok-write_field-2.ensures.done
    c.in_ok-write_values.ensures.done)
    c.write_own.ensures.done

pub returns-clause-full : goal.returns-clause-full
returns-clause-full c =
    let row = c.args.row.now in
    let text = day_text row.date row.update row.readings.now (option_map (λ mark. mark.now) row.mark) c.digits-date.result c.digits-update.result c.digits-date.ensures c.digits-update.ensures in
    let first = c.in_ok-write_field.ensures in
    let second = c.in_ok-write_field-2.ensures in
    let values = c.in_ok-write_values.ensures in
    on_err_weaker c.write_own.result
    (λ full. (text.0, text.1, omega (arith, text.2, full, first.len, first.grows, second.len, second.grows, values.len, values.grows)))
    c.write_own.ensures.full

pub returns-in_err-write_field-clause-done : goal.returns-in_err-write_field-clause-done
returns-in_err-write_field-clause-done c = let p = err_from_is_err_and c.from_residual.result c.from_residual.ensures.1 in rw p.1 tt

pub returns-in_err-write_field-clause-lawful : goal.returns-in_err-write_field-clause-lawful
returns-in_err-write_field-clause-lawful c = let p = err_from_is_err_and c.from_residual.result c.from_residual.ensures.1 in rw p.1 tt

pub returns-in_err-write_field-clause-grown : goal.returns-in_err-write_field-clause-grown
returns-in_err-write_field-clause-grown c =
    on_err_from c.from_residual.result _
    (c.in_err-write_field.ensures.grown)

pub returns-in_err-write_field-2-clause-done : goal.returns-in_err-write_field-2-clause-done
returns-in_err-write_field-2-clause-done c =
    let p = err_from_is_err_and c.from_residual-in_err-write_field-2.result c.from_residual-in_err-write_field-2.ensures.1 in rw p.1 tt

pub returns-in_err-write_field-2-clause-lawful : goal.returns-in_err-write_field-2-clause-lawful
returns-in_err-write_field-2-clause-lawful c =
    let p = err_from_is_err_and c.from_residual-in_err-write_field-2.result c.from_residual-in_err-write_field-2.ensures.1 in rw p.1 tt

pub returns-in_err-write_field-2-clause-grown : goal.returns-in_err-write_field-2-clause-grown
returns-in_err-write_field-2-clause-grown c =
    on_err_from c.from_residual-in_err-write_field-2.result _
    (begun_after _ _ _ _ c.in_ok-write_field.ensures.done c.in_err-write_field-2.ensures.grown)

pub returns-in_err-write_values-clause-done : goal.returns-in_err-write_values-clause-done
returns-in_err-write_values-clause-done c =
    let p = err_from_is_err_and c.from_residual-in_err-write_values.result c.from_residual-in_err-write_values.ensures.1 in rw p.1 tt

pub returns-in_err-write_values-clause-lawful : goal.returns-in_err-write_values-clause-lawful
returns-in_err-write_values-clause-lawful c =
    let p = err_from_is_err_and c.from_residual-in_err-write_values.result c.from_residual-in_err-write_values.ensures.1 in rw p.1 tt

pub returns-in_err-write_values-clause-grown : goal.returns-in_err-write_values-clause-grown
returns-in_err-write_values-clause-grown c =
    on_err_from c.from_residual-in_err-write_values.result _
    (begun_after _ _ _ _ c.in_ok-write_field.ensures.done (begun_after _ _ _ _ c.in_ok-write_field-2.ensures.done c.in_err-write_values.ensures.grown))

pub returns-clause-lawful : goal.returns-clause-lawful
returns-clause-lawful c = on_ok_from c.write_own.result _ (c.in_ok-write_values.ensures.lawful, marked _ c.write_own.ensures.lawful)

pub returns-clause-grown : goal.returns-clause-grown
returns-clause-grown c =
    on_err_weaker c.write_own.result (λ more.
    begun_after _ _ _ _ c.in_ok-write_field.ensures.done (begun_after _ _ _ _ c.in_ok-write_field-2.ensures.done (begun_after _ _ _ _ c.in_ok-write_values.ensures.done more)))
    c.write_own.ensures.grown

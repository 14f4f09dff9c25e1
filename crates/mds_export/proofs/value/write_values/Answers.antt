use Rattle.std.proofs.Common.{◌++◌, ◌∙◌, ap, arith, length}
use Rattle.std.proofs.lemmas.List.{take_all}
use Rattle.std.proofs.lemmas.Result.{err_from_is_err_and}
use Rattle.mds_quantity.proofs.Front.{on_err_from}
use Rattle.mds_export.specs.RowSteps.{value_texts}
use Rattle.mds_export.proofs.Begun.{begun_after}
use Rattle.mds_export.proofs.Fields.{all_lawful, number_fits, number_length, number_long, number_step, numbers_length}
use Rattle.mds_export.proofs.value.write_values.Goals as goal

pub write_number-requires : goal.write_number-requires
write_number-requires c =
    number_fits c.args.readings.now c.millionths-number-items.result.now c.loop-number.number-index c.millionths-number-items.ensures c.loop-number-test.true
    c.are_lawful.ensures

pub loop-number-preserved : goal.loop-number-preserved
loop-number-preserved c =
    let before = c.loop-number.invariant in
    let wrote = c.in_ok-write_number.ensures in
    record {
      text = number_step c.args.readings.now c.millionths-number-items.result.now c.loop-number.number-index c.millionths-number-items.ensures
          c.loop-number-test.true c.are_lawful.ensures _ _ _ before.text wrote.done;
      len = number_length c.args.readings.now c.millionths-number-items.result.now c.loop-number.number-index c.millionths-number-items.ensures
          c.loop-number-test.true c.are_lawful.ensures _ _ _ before.len wrote.len;
      capacity = omega (arith, before.capacity, wrote.grows);
    }

pub returns-in_err-write_number-clause-grown : goal.returns-in_err-write_number-clause-grown
returns-in_err-write_number-clause-grown c =
    on_err_from c.from_residual.result _ (begun_after _ _ _ _ c.loop-number.invariant.text c.in_err-write_number.ensures.grown)

pub returns-in_err-write_number-clause-full : goal.returns-in_err-write_number-clause-full
returns-in_err-write_number-clause-full c =
    let before = c.loop-number.invariant in
    on_err_from c.from_residual.result _
    (number_long c.args.readings.now c.millionths-number-items.result.now c.loop-number.number-index c.millionths-number-items.ensures
    c.loop-number-test.true c.are_lawful.ensures _ _ _ _ before.len before.capacity c.in_err-write_number.ensures.full)

pub returns-in_err-write_number-clause-done : goal.returns-in_err-write_number-clause-done
returns-in_err-write_number-clause-done c = let p = err_from_is_err_and c.from_residual.result c.from_residual.ensures.1 in rw p.1 tt

pub returns-in_err-write_number-clause-lawful : goal.returns-in_err-write_number-clause-lawful
returns-in_err-write_number-clause-lawful c = all_lawful c.args.readings.now c.are_lawful.ensures

pub returns-in_err-write_number-clause-len : goal.returns-in_err-write_number-clause-len
returns-in_err-write_number-clause-len c = let p = err_from_is_err_and c.from_residual.result c.from_residual.ensures.1 in rw p.1 tt

pub returns-in_err-write_number-clause-grows : goal.returns-in_err-write_number-clause-grows
returns-in_err-write_number-clause-grows c = omega (arith, c.loop-number.invariant.capacity, c.write_number.ensures.grows)

pub returns-clause-done : goal.returns-clause-done
returns-clause-done c =
    let size = numbers_length c.args.readings.now c.millionths-number-items.result.now c.millionths-number-items.ensures in
    c.loop-number.invariant.text
    ∙ ap (λ readings. c.args.out.now.items ++ value_texts readings) (take_all c.loop-number.number-index c.args.readings.now (omega (arith, size)))

pub returns-clause-lawful : goal.returns-clause-lawful
returns-clause-lawful c = all_lawful c.args.readings.now c.are_lawful.ensures

pub returns-clause-grows : goal.returns-clause-grows
returns-clause-grows c = c.loop-number.invariant.capacity

pub returns-clause-len : goal.returns-clause-len
returns-clause-len c =
    let size = numbers_length c.args.readings.now c.millionths-number-items.result.now c.millionths-number-items.ensures in
    let whole = take_all c.loop-number.number-index c.args.readings.now (omega (arith, size)) in
    omega (arith, c.loop-number.invariant.len, ap (λ readings. length (value_texts readings)) whole)

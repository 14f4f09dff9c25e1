use Rattle.std.proofs.Common.{◌≡◌, ◌++◌, true, Option, List, ap, subst, sym, refl, ◌∙◌, arith}
use Rattle.std.specs.List.{flat_map, list_all}
use Rattle.std.proofs.lemmas.List.{append-nil, take_all}
use Rattle.std.proofs.lemmas.Result.{IfOk-from_err}
use Rattle.std.proofs.lemmas.Grind.{common_steps}
use Rattle.mds_marks.specs.Reading.{ReadingValue}
use Rattle.mds_packs.specs.Body.{is_held_lawful, reading_bytes}
use Rattle.mds_packs.proofs.packing.put_values.Goals as goal

pub loop-reading-preserved : goal.loop-reading-preserved
loop-reading-preserved c = grind (arith, common_steps)

pub loop-reading-init : goal.loop-reading-init
loop-reading-init c = record { written = sym (append-nil c.args.out.now.items); lawful = refl }

pub returns-in_err-put_value-clause-done : goal.returns-in_err-put_value-clause-done
returns-in_err-put_value-clause-done c = IfOk-from_err _ _ c.from_residual.ensures.0

pub returns-in_err-put_value-clause-lawful : goal.returns-in_err-put_value-clause-lawful
returns-in_err-put_value-clause-lawful c = IfOk-from_err _ _ c.from_residual.ensures.0

pub returns-clause-done : goal.returns-clause-done
returns-clause-done c =
    c.loop-reading.invariant.written
    ∙ ap (λ (readings : List (Option ReadingValue)). c.args.out.now.items ++ flat_map reading_bytes readings) (take_all c.loop-reading.reading-index c.args.readings.now (omega arith))

pub returns-clause-lawful : goal.returns-clause-lawful
returns-clause-lawful c =
    subst (λ (readings : List (Option ReadingValue)). list_all is_held_lawful readings ≡ true) (take_all c.loop-reading.reading-index c.args.readings.now (omega arith))
    c.loop-reading.invariant.lawful

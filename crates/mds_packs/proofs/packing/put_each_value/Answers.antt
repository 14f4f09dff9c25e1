use Rattle.std.proofs.Common.{◌++◌, List, ap, sym, ◌∙◌, arith}
use Rattle.std.specs.List.{flat_map}
use Rattle.std.proofs.lemmas.List.{append-nil, take_all}
use Rattle.std.proofs.lemmas.Result.{IfOk-from_err}
use Rattle.mds_marks.specs.Reading.{ReadingValue}
use Rattle.mds_packs.specs.Body.{value_bytes}
use Rattle.mds_packs.proofs.DayPacks.{one_value}
use Rattle.mds_packs.proofs.packing.put_each_value.Goals as goal

pub loop-at-preserved : goal.loop-at-preserved
loop-at-preserved c =
    one_value c.args.readings.now c.loop-at.at c.value.result c.args.out.now.items c.loop-at.out.items c.put_number.new.out.items (omega (arith, c.len-at-end.ensures.value)) c.value.ensures c.in_ok-put_number.ensures c.loop-at.invariant

pub loop-at-init : goal.loop-at-init
loop-at-init c = sym (append-nil c.args.out.now.items)

pub value-requires : goal.value-requires
value-requires c = omega (arith, c.len-at-end.ensures.value, c.loop-at-test.true)

pub returns-in_err-put_number : goal.returns-in_err-put_number
returns-in_err-put_number c = IfOk-from_err _ _ c.from_residual.ensures.0

pub returns : goal.returns
returns c =
    c.loop-at.invariant
    ∙ ap (λ (readings : List ReadingValue). c.args.out.now.items ++ flat_map (λ (r : ReadingValue). value_bytes r.value) readings)
    (take_all c.loop-at.at c.args.readings.now (omega (arith, c.len-at-end.ensures.value, c.loop-at-test.false)))

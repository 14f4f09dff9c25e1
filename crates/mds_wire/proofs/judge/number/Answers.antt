use Rattle.std.proofs.Common.{◌≡◌, get_or, true, sym, ◌∙◌}
use Rattle.std.specs.Char.{is_ascii_digit}
use Rattle.mds_wire.proofs.Numbers.{digits_step}
use Rattle.mds_wire.proofs.judge.number.Goals as goal

pub loop-byte-preserved : goal.loop-byte-preserved
loop-byte-preserved c =
    let i = c.loop-byte.invariant in
    let digit : is_ascii_digit (get_or c.args.value.now c.loop-byte.byte-index 0) ≡ true = sym c.is_ascii_digit.ensures.value ∙ c.if-not-is_ascii_digit.false in
    let next = digits_step c.args.value.now c.loop-byte.byte-index c.loop-byte.size 8388609 c.loop-byte-test.true digit i.0 i.1 in
    (next.0, c.min-size.ensures ∙ next.1)

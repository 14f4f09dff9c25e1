use Rattle.std.proofs.Common.{◌≡◌, ◌≤◌, ◌+◌, arith}
use Rattle.mds_calendar.specs.Length.{count_of}
use Rattle.mds_registers.proofs.BookReadings.{has_intervals}
use Rattle.mds_registers.proofs.Found.{finals_are, finals_grow, finals_stay, on_err, unknown_finals}
use Rattle.mds_registers.proofs.stretches.finals.Goals as goal

pub returns-in_default-clause-finals : goal.returns-in_default-clause-finals
returns-in_default-clause-finals c = λ w is.
    unknown_finals w c.args.book.now c.new-finals.result.items is c.in_default.ensures.none
    c.new-finals.ensures.items

pub loop-i-preserved-in_default-final_mark : goal.loop-i-preserved-in_default-final_mark
loop-i-preserved-in_default-final_mark c = λ w is.
    finals_stay w c.args.book.now c.loop-i.i c.loop-i.finals.items (c.in_default-final_mark.ensures w is)
    (c.loop-i.invariant w is)

pub returns-in_err-take_in_final-clause-memory : goal.returns-in_err-take_in_final-clause-memory
returns-in_err-take_in_final-clause-memory c = λ w is.
    let more = c.loop-i-test.true in
    let count = c.count-i-end.ensures.value in
    let within : c.loop-i.i + 1 ≤ count_of c.in-Some.form.0 = omega (arith, more, count) in
    on_err c.from_residual.result (
      _,
      _,
      _,
      has_intervals w c.args.book.now c.in-Some.form is c.in-Some.ensures.some,
      omega arith,
      within,
      c.in-Some-final_mark.ensures w is,
    )

pub loop-i-preserved : goal.loop-i-preserved
loop-i-preserved c = λ w is.
    finals_grow w c.args.book.now c.loop-i.i c.in-Some-final_mark.mark.now c.loop-i.finals.items
    c.take_in_final.new.finals.items is c.is_lawful.ensures (c.in-Some-final_mark.ensures w is)
    c.in_ok-take_in_final.ensures (c.loop-i.invariant w is)

pub returns-clause-finals : goal.returns-clause-finals
returns-clause-finals c = λ w is.
    let over = c.loop-i-test.false in
    let end = c.loop-i.auto.i-end in
    let count = c.count-i-end.ensures.value in
    let all : c.loop-i.i ≡ count_of c.in-Some.form.0 = omega (arith, over, end, count) in
    finals_are w c.args.book.now c.in-Some.form c.loop-i.i c.loop-i.finals.items is c.is_lawful.ensures
    c.in-Some.ensures.some all (c.loop-i.invariant w is)

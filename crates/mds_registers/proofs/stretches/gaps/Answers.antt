use Rattle.std.proofs.Common.{◌≡◌, ◌≤◌, ◌+◌, inl, inr, arith}
use Rattle.mds_calendar.specs.Length.{count_of}
use Rattle.mds_registers.proofs.BookReadings.{has_intervals, is_unknown}
use Rattle.mds_registers.proofs.Found.{gaps_are, gaps_grow, gaps_stay, on_err, unknown_gaps}
use Rattle.mds_registers.proofs.stretches.gaps.Goals as goal

pub returns-in_err-push-clause-memory : goal.returns-in_err-push-clause-memory
returns-in_err-push-clause-memory c = λ w is.
    on_err c.from_residual.result (inr (is_unknown w c.args.book.now is c.in_default.ensures.none))

pub returns-in_default-clause-gaps : goal.returns-in_default-clause-gaps
returns-in_default-clause-gaps c = λ w is.
    unknown_gaps w c.args.book.now c.new-gaps.result.items c.push.new.self.items is c.in_default.ensures.none c.new-gaps.ensures.items c.in_ok-push.ensures.items

pub loop-i-preserved-then-not-is_null : goal.loop-i-preserved-then-not-is_null
loop-i-preserved-then-not-is_null c = λ w is.
    gaps_stay w c.args.book.now c.loop-i.i c.loop-i.gaps.items (c.if-not-is_null.ensures w is) (c.loop-i.invariant w is)

pub returns-in_err-take_in_null-clause-memory : goal.returns-in_err-take_in_null-clause-memory
returns-in_err-take_in_null-clause-memory c = λ w is.
    let more = c.loop-i-test.true in
    let count = c.count-i-end.ensures.value in
    let within : c.loop-i.i + 1 ≤ count_of c.in-Some.form.0 = omega (arith, more, count) in
    on_err c.from_residual-in_err-take_in_null.result (inl (_, _, has_intervals w c.args.book.now c.in-Some.form is c.in-Some.ensures.some, omega arith, within, c.if-not-is_null.ensures w is))

pub loop-i-preserved : goal.loop-i-preserved
loop-i-preserved c = λ w is.
    gaps_grow w c.args.book.now c.loop-i.i c.loop-i.gaps.items c.take_in_null.new.gaps.items (c.if-not-is_null.ensures w is)
    c.in_ok-take_in_null.ensures (c.loop-i.invariant w is)

pub returns-clause-gaps : goal.returns-clause-gaps
returns-clause-gaps c = λ w is.
    let over = c.loop-i-test.false in
    let end = c.loop-i.auto.i-end in
    let count = c.count-i-end.ensures.value in
    let all : c.loop-i.i ≡ count_of c.in-Some.form.0 = omega (arith, over, end, count) in
    gaps_are w c.args.book.now c.in-Some.form c.loop-i.i c.loop-i.gaps.items is c.is_lawful.ensures c.in-Some.ensures.some all (c.loop-i.invariant w is)

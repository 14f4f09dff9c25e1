use Rattle.std.proofs.Common.{◌≡◌, ◌<◌, ◌≤◌, ◌+◌, ◌-◌, replicate, Some, ap, sym, arith}
use Rattle.std.proofs.lemmas.Result.{IfOk-from_err}
use Rattle.mds_packs.specs.Unpacked.{readings_at}
use Rattle.mds_packs.specs.LoopSteps.{with_front}
use Rattle.mds_packs.proofs.Loops.{held_on, held_no_value, held_not_joined, held_done, joined_not, joined_so}
use Rattle.mds_packs.proofs.unpacking.read_run.Goals as goal

pub returns-in_default : goal.returns-in_default
returns-in_default c =
    let lt : c.loop.counter < (c.args.run.now.last + 1 - c.args.run.now.first) = omega (arith, c.from.ensures, c.from-2.ensures, c.loop-test.true) in
    held_no_value c.loop.readings.items (c.args.run.now.last + 1 - c.args.run.now.first) c.loop.counter c.args.run.now.mark c.loop.rest.now (with_front c.args.readings.now.items (readings_at (replicate (c.args.run.now.last + 1 - c.args.run.now.first) (Some c.args.run.now.mark)) c.args.bytes.now)) lt (sym c.in_default.ensures) c.loop.invariant

pub returns-in_default-new : goal.returns-in_default-new
returns-in_default-new c =
    let lt : c.loop.counter < (c.args.run.now.last + 1 - c.args.run.now.first) = omega (arith, c.from.ensures, c.from-2.ensures, c.loop-test.true) in
    held_not_joined c.loop.readings.items (c.args.run.now.last + 1 - c.args.run.now.first) c.loop.counter c.args.run.now.mark c.loop.rest.now c.in-Some.after.now c.in-Some.value (with_front c.args.readings.now.items (readings_at (replicate (c.args.run.now.last + 1 - c.args.run.now.first) (Some c.args.run.now.mark)) c.args.bytes.now)) lt (sym c.in-Some.ensures) (joined_not c.args.run.now.mark c.in_ok-try_clone.field-0 c.in-Some.value c.in_ok-try_clone.ensures.value c.in_default-new.ensures) c.loop.invariant

pub loop-preserved : goal.loop-preserved
loop-preserved c =
    let lt : c.loop.counter < (c.args.run.now.last + 1 - c.args.run.now.first) = omega (arith, c.from.ensures, c.from-2.ensures, c.loop-test.true) in
    rw c.in_ok-push.ensures.items (held_on c.loop.readings.items (c.args.run.now.last + 1 - c.args.run.now.first) c.loop.counter c.args.run.now.mark c.loop.rest.now c.in-Some.after.now c.in-Some.value c.in-Some-new.reading (with_front c.args.readings.now.items (readings_at (replicate (c.args.run.now.last + 1 - c.args.run.now.first) (Some c.args.run.now.mark)) c.args.bytes.now)) lt (sym c.in-Some.ensures) (joined_so c.args.run.now.mark c.in_ok-try_clone.field-0 c.in-Some.value c.in-Some-new.reading c.in_ok-try_clone.ensures.value c.in-Some-new.ensures.0 c.in-Some-new.ensures.1) c.loop.invariant)

pub returns-in_err-try_clone : goal.returns-in_err-try_clone
returns-in_err-try_clone c = IfOk-from_err _ _ c.from_residual.ensures.0

pub returns-in_err-push : goal.returns-in_err-push
returns-in_err-push c = IfOk-from_err _ _ c.from_residual-in_err-push.ensures.0

pub loop-init : goal.loop-init
loop-init c =
    let run = c.args.run.now in
    let all : run.last + 1 - run.first - 0 ≡ run.last + 1 - run.first = omega arith in
    ap (λ n. with_front c.args.readings.now.items (readings_at (replicate n (Some run.mark)) c.args.bytes.now)) all

pub returns : goal.returns
returns c =
    let run = c.args.run.now in
    let n = run.last + 1 - run.first in
    let le : n ≤ c.loop.counter = omega (arith, c.from.ensures, c.from-2.ensures, c.loop-test.false) in
    held_done c.loop.readings.items n c.loop.counter run.mark c.loop.rest.now (with_front c.args.readings.now.items (readings_at (replicate n (Some run.mark)) c.args.bytes.now)) le c.loop.invariant

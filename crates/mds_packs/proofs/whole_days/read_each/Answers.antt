use Rattle.std.proofs.Common.{◌≡◌, ◌+◌, length, sym, ap, ◌∙◌, arith}
use Rattle.std.specs.Prelude.{option_map}
use Rattle.mds_runs.specs.GapSteps.{marks_after}
use Rattle.mds_packs.specs.Unpacked.{readings_at}
use Rattle.mds_packs.proofs.DayPacks.{held}
use Rattle.mds_packs.proofs.HeldReads.{over_begun, over_done, over_gap, over_on, over_short, over_unread, run_within}
use Rattle.mds_packs.proofs.whole_days.read_each.Goals as goal

pub loop-run-init : goal.loop-run-init
loop-run-init c = over_begun c.args.count c.args.readings.now c.args.runs.now c.args.bytes.now c.requires.empty c.requires.lawful

pub returns-then-from-len : goal.returns-then-from-len
returns-then-from-len c =
    over_gap c.args.count c.loop-run.readings c.args.runs.now c.loop-run.run-index c.run-item.result c.loop-run.rest.now (readings_at (marks_after c.args.count 0 c.args.runs.now) c.args.bytes.now) c.loop-run-test.true c.run-item.is c.loop-run.invariant (λ e. c.if-from-len.true (c.from-in-loop-run.ensures ∙ e ∙ ap (λ n. n + 1) (sym c.len.ensures.value)))

pub read_run-requires-clause-some : goal.read_run-requires-clause-some
read_run-requires-clause-some c =
    (run_within c.args.count c.loop-run.readings c.args.runs.now c.loop-run.run-index c.run-item.result c.loop-run.rest.now (readings_at (marks_after c.args.count 0 c.args.runs.now) c.args.bytes.now) c.loop-run-test.true c.run-item.is c.loop-run.invariant).1

pub read_run-requires-clause-few : goal.read_run-requires-clause-few
read_run-requires-clause-few c =
    let within = run_within c.args.count c.loop-run.readings c.args.runs.now c.loop-run.run-index c.run-item.result c.loop-run.rest.now (readings_at (marks_after c.args.count 0 c.args.runs.now) c.args.bytes.now) c.loop-run-test.true c.run-item.is c.loop-run.invariant in
    omega (arith, within.2, c.ranges.count)

pub returns-in_default : goal.returns-in_default
returns-in_default c =
    let next : c.run-item.result.first ≡ length c.loop-run.readings + 1 = sym c.from-in-loop-run.ensures ∙ c.if-from-len.false ∙ ap (λ n. n + 1) c.len.ensures.value in
    over_unread c.args.count c.loop-run.readings c.args.runs.now c.loop-run.run-index c.run-item.result c.loop-run.rest.now (readings_at (marks_after c.args.count 0 c.args.runs.now) c.args.bytes.now) c.loop-run-test.true c.run-item.is c.loop-run.invariant next (sym c.in_ok-after.ensures ∙ ap (λ o. option_map (λ rest. (held c.read_run.new.readings, rest.now)) o) c.in_default.is)

pub loop-run-preserved : goal.loop-run-preserved
loop-run-preserved c =
    let next : c.run-item.result.first ≡ length c.loop-run.readings + 1 = sym c.from-in-loop-run.ensures ∙ c.if-from-len.false ∙ ap (λ n. n + 1) c.len.ensures.value in
    over_on c.args.count c.loop-run.readings c.read_run.new.readings c.args.runs.now c.loop-run.run-index c.run-item.result c.loop-run.rest.now c.in-Some.after.now (readings_at (marks_after c.args.count 0 c.args.runs.now) c.args.bytes.now) c.loop-run-test.true c.run-item.is c.loop-run.invariant next (sym c.in_ok-after.ensures ∙ ap (λ o. option_map (λ rest. (held c.read_run.new.readings, rest.now)) o) c.in-Some.is)

pub returns-then-len-from : goal.returns-then-len-from
returns-then-len-from c =
    over_short c.args.count c.loop-run.readings c.args.runs.now c.loop-run.run-index c.loop-run.rest.now (readings_at (marks_after c.args.count 0 c.args.runs.now) c.args.bytes.now) c.loop-run-test.false c.loop-run.invariant (omega (arith, c.len-2.ensures.value, c.from-2.ensures, c.if-len-from.true))

pub returns : goal.returns
returns c =
    over_done c.args.count c.loop-run.readings c.args.runs.now c.loop-run.run-index c.loop-run.rest.now (readings_at (marks_after c.args.count 0 c.args.runs.now) c.args.bytes.now) c.loop-run-test.false c.loop-run.invariant (omega (arith, c.len-2.ensures.value, c.from-2.ensures, c.if-len-from.false))

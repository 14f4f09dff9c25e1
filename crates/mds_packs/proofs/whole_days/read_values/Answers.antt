use Rattle.std.proofs.Common.{replicate, Some, sym, ◌∙◌}
use Rattle.mds_packs.specs.Unpacked.{readings_at}
use Rattle.mds_packs.proofs.HeldReads.{under_begun, under_done, under_none, under_on, variable_none}
use Rattle.mds_packs.proofs.whole_days.read_values.Goals as goal

pub returns-then-flag-eq-VARIABLE-clause-value : goal.returns-then-flag-eq-VARIABLE-clause-value
returns-then-flag-eq-VARIABLE-clause-value c =
    variable_none c.args.mark.now c.args.number c.args.bytes.now c.requires (sym c.flag.ensures.value ∙ c.if-flag-eq-VARIABLE.true)

pub loop-init : goal.loop-init
loop-init c = under_begun c.args.mark.now c.args.number c.clear.new.self.items c.args.bytes.now c.clear.ensures.items

pub returns-in_default-clause-value : goal.returns-in_default-clause-value
returns-in_default-clause-value c =
    under_none c.args.mark.now c.args.number c.loop.counter c.loop.values.items c.loop.rest.now (readings_at (replicate c.args.number (Some c.args.mark.now)) c.args.bytes.now) c.loop-test.true (sym c.in_default.ensures) c.loop.invariant

pub loop-preserved : goal.loop-preserved
loop-preserved c =
    under_on c.args.mark.now c.args.number c.loop.counter c.loop.values.items c.push.new.self.items c.in-Some.value c.loop.rest.now c.in-Some.after.now (readings_at (replicate c.args.number (Some c.args.mark.now)) c.args.bytes.now) c.loop-test.true (λ e. c.if-flag-eq-VARIABLE.false (c.flag.ensures.value ∙ e)) (sym c.in-Some.ensures) c.in_ok-push.ensures.items c.loop.invariant

pub returns-clause-value : goal.returns-clause-value
returns-clause-value c =
    under_done c.args.mark.now c.args.number c.loop.counter c.loop.values.items c.loop.rest.now (readings_at (replicate c.args.number (Some c.args.mark.now)) c.args.bytes.now) c.loop-test.false c.loop.invariant

pub returns-clause-together : goal.returns-clause-together
returns-clause-together c = c.loop.invariant.together

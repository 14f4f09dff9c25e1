use Rattle.std.proofs.Common.{sym, ◌∙◌}
use Rattle.mds_packs.specs.Unpacked.{runs_at}
use Rattle.mds_packs.specs.LoopSteps.{parts_value, with_front}
use Rattle.mds_packs.proofs.Loops.{runs_on, runs_no_parts, runs_no_run, runs_done}
use Rattle.mds_packs.proofs.unpacking.read_runs.Goals as goal

pub returns-in_default : goal.returns-in_default
returns-in_default c = runs_no_parts c.loop.runs.items c.args.number c.loop.counter c.loop.rest.now (with_front c.args.runs.now.items (runs_at c.args.number c.args.bytes.now)) c.loop-test.true (sym c.in_default.ensures) c.loop.invariant

pub returns-in_default-2 : goal.returns-in_default-2
returns-in_default-2 c = runs_no_run c.loop.runs.items c.args.number c.loop.counter c.loop.rest.now c.in-Some.after.now (parts_value c.in-Some.parts) (with_front c.args.runs.now.items (runs_at c.args.number c.args.bytes.now)) c.loop-test.true (sym c.in-Some.ensures) (sym c.in_ok-run.ensures ∙ c.in_default-2.is) c.loop.invariant

pub loop-preserved : goal.loop-preserved
loop-preserved c =
    rw c.in_ok-push.ensures.items (runs_on c.loop.runs.items c.args.number c.loop.counter c.loop.rest.now c.in-Some.after.now (parts_value c.in-Some.parts) c.in-Some-2.run' (with_front c.args.runs.now.items (runs_at c.args.number c.args.bytes.now)) c.loop-test.true (sym c.in-Some.ensures) (sym c.in_ok-run.ensures ∙ c.in-Some-2.is) c.loop.invariant)

pub returns : goal.returns
returns c = runs_done c.loop.runs.items c.args.number c.loop.counter c.loop.rest.now (with_front c.args.runs.now.items (runs_at c.args.number c.args.bytes.now)) c.loop-test.false c.loop.invariant

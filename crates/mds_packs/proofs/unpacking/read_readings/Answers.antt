use Rattle.std.proofs.Common.{◌≡◌, ℕ, ◌+◌, ◌≤◌, ◌<◌, true, List, [], Option, None, length, drop, get_or, sym, ap, subst, ◌∙◌, arith}
use Rattle.std.specs.Prelude.{option_map}
use Rattle.std.proofs.lemmas.Result.{IfOk-from_err}
use Rattle.mds_marks.specs.Reading.{ReadingValue}
use Rattle.mds_runs.specs.declared.cover.Run.{Run}
use Rattle.mds_runs.specs.GapSteps.{are_parted, marks_after}
use Rattle.mds_packs.specs.Unpacked.{readings_at}
use Rattle.mds_packs.specs.LoopSteps.{with_front}
use Rattle.mds_packs.proofs.Loops.{Behind, Left, Behind-facts, left_is, turn, turn_ends, last_turn, with_front-none}
use Rattle.mds_packs.proofs.unpacking.read_readings.Goals as goal

-- before the first run nothing was read
at_first : (front : List (Option ReadingValue)) (count : ℕ) (runs : List Run) (bytes : List ℕ) → front ≡ [] → are_parted count None runs ≡ true
    → Behind count (length front) runs × Left front count runs bytes (readings_at (marks_after count 0 runs) bytes)
at_first front count runs bytes none lawful = (
  record { last = None; ends = sym (ap length none); parted = lawful },
  ap (λ (f : List (Option ReadingValue)). with_front f (readings_at (marks_after count (length f) runs) bytes)) none ∙ with_front-none (readings_at (marks_after count 0 runs) bytes),
)

-- this run begins behind the place, and ends at its start or later
here : (count place : ℕ) (runs : List Run) (k : ℕ) (run : Run) → k < length runs → run ≡ get_or runs k run → Behind count place (drop k runs)
    → (place < run.first) × (run.first ≤ run.last)
here count place runs k run lt is behind =
    let b = Behind-facts count place run (drop (k + 1) runs) (subst (Behind count place) (left_is runs k run lt is) behind) in
    (b.0, b.1)

pub returns-in_default : goal.returns-in_default
returns-in_default c =
    turn_ends c.loop-run.readings.items c.leave_out.new.readings.items c.args.count c.args.runs.now c.loop-run.run-index c.run-item.result c.loop-run.rest.now (readings_at (marks_after c.args.count 0 c.args.runs.now) c.args.bytes.now) c.loop-run-test.true c.run-item.is c.loop-run.invariant.read c.in_ok-leave_out.ensures (sym c.in_ok-after.ensures ∙ ap (λ o. option_map (λ rest. (c.read_run.new.readings.items, rest.now)) o) c.in_default.is)

pub loop-run-preserved : goal.loop-run-preserved
loop-run-preserved c =
    let both = turn c.loop-run.readings.items c.leave_out.new.readings.items c.read_run.new.readings.items c.args.count c.args.runs.now c.loop-run.run-index c.run-item.result c.loop-run.rest.now c.in-Some.after.now (readings_at (marks_after c.args.count 0 c.args.runs.now) c.args.bytes.now) c.loop-run-test.true c.run-item.is c.loop-run.invariant.behind c.loop-run.invariant.read c.in_ok-leave_out.ensures (sym c.in_ok-after.ensures ∙ ap (λ o. option_map (λ rest. (c.read_run.new.readings.items, rest.now)) o) c.in-Some.is) in
    record { behind = both.0; read = both.1 }

pub returns : goal.returns
returns c = last_turn c.loop-run.readings.items c.leave_out-2.new.readings.items c.args.count c.args.runs.now c.loop-run.run-index c.loop-run.rest.now (readings_at (marks_after c.args.count 0 c.args.runs.now) c.args.bytes.now) c.loop-run-test.false c.loop-run.invariant.read c.in_ok-leave_out-2.ensures

pub loop-run-init : goal.loop-run-init
loop-run-init c =
    let both = at_first c.args.readings.now.items c.args.count c.args.runs.now c.args.bytes.now c.requires.empty c.requires.lawful in
    record { behind = both.0; read = both.1 }

pub overflow_sub-run : goal.overflow_sub-run
overflow_sub-run c =
    let both = here c.args.count _ c.args.runs.now c.loop-run.run-index c.run-item.result c.loop-run-test.true c.run-item.is c.loop-run.invariant.behind in
    omega (arith, both.0)

pub returns-in_err-leave_out : goal.returns-in_err-leave_out
returns-in_err-leave_out c = IfOk-from_err _ _ c.from_residual.ensures.0

pub read_run-requires : goal.read_run-requires
read_run-requires c =
    let both = here c.args.count _ c.args.runs.now c.loop-run.run-index c.run-item.result c.loop-run-test.true c.run-item.is c.loop-run.invariant.behind in
    both.1

pub returns-in_err-after : goal.returns-in_err-after
returns-in_err-after c = IfOk-from_err _ _ c.from_residual-in_err-after.ensures.0

pub returns-in_err-leave_out-2 : goal.returns-in_err-leave_out-2
returns-in_err-leave_out-2 c = IfOk-from_err _ _ c.from_residual-in_err-leave_out-2.ensures.0

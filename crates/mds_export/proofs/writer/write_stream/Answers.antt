use Rattle.std.proofs.Common.{option_map, List, ℕ, None, [], refl, sym, subst, length, ◌≤◌}
use Rattle.mds_quantity.proofs.Front.{on_err_from}
use Rattle.mds_export.proofs.Begun.{begun_after}
use Rattle.mds_export.proofs.Writes.{stream_step}
use Rattle.std.proofs.lemmas.Result.{err_from_is_err_and}
use Rattle.std.proofs.lemmas.List.{append-nil, take_all}
use Rattle.mds_quantity.specs.Append.{Appends}
use Rattle.mds_export.specs.Placed.{placed_after}
use Rattle.mds_export.specs.WriterSteps.{AreWritten}
use Rattle.mds_statements.specs.declared.selected.SelectedDay.{SelectedDay}
use Rattle.mds_export.proofs.writer.write_stream.Goals as goal

pub returns-in_err-write_placed-clause-grown : goal.returns-in_err-write_placed-clause-grown
returns-in_err-write_placed-clause-grown c =
    on_err_from c.from_residual.result _
    (begun_after c.args.out.now.items c.loop-day.out.items c.write_placed.new.out.items c.loop-day.invariant.done.0 c.loop-day.invariant.done.2
    c.in_err-write_placed.ensures.grown)

pub loop-day-preserved : goal.loop-day-preserved
loop-day-preserved c =
    let step = stream_step c.args.selected.now c.args.selected.now.days.items c.loop-day.day-index (option_map (λ before. before.now) c.loop-day.before)
    c.day-item.result c.args.out.now.items c.loop-day.out.items c.write_placed.new.out.items
    (rw c.deref-day-items.ensures.value at c.loop-day-test.true) (rw c.deref-day-items.ensures.value at c.day-item.is) c.loop-day.invariant.before
    c.loop-day.invariant.done c.in_ok-write_placed.ensures.done in
    record { done = step.0; before = step.1 }

pub loop-day-init : goal.loop-day-init
loop-day-init c =
    record { done = ([], record { rows = []; of_days = refl; lines = refl }, sym (append-nil c.args.out.now.items)); before = refl }

pub returns-in_err-write_placed-clause-done : goal.returns-in_err-write_placed-clause-done
returns-in_err-write_placed-clause-done c = let p = err_from_is_err_and c.from_residual.result c.from_residual.ensures.1 in rw p.1 tt

pub returns-clause-done : goal.returns-clause-done
returns-clause-done c =
    let days = c.args.selected.now.days.items in
    let within : length days ≤ c.loop-day.day-index = rw c.deref-day-items.ensures.value at c.loop-day-test.false in
    subst (λ (days : List SelectedDay). (text : List ℕ) × AreWritten (placed_after c.args.selected.now None days) text × Appends c.args.out.now.items c.loop-day.out.items text)
    (take_all c.loop-day.day-index days within) c.loop-day.invariant.done

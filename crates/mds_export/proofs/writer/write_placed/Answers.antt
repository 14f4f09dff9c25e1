use Rattle.std.proofs.Common.{option_map}
use Rattle.std.proofs.lemmas.Result.{on_ok_weaker, err_from_is_err_and, on_err_weaker}
use Rattle.mds_export.proofs.Writes.{placed_written}
use Rattle.mds_quantity.proofs.Front.{on_err_from}
use Rattle.mds_export.proofs.Begun.{begun_after}
use Rattle.mds_export.proofs.writer.write_placed.Goals as goal

pub returns-clause-done : goal.returns-clause-done
returns-clause-done c =
    on_ok_weaker c.write_readings.result (placed_written (record {
      selected = c.args.selected.now;
      before = option_map (λ before. before.now) c.args.before;
      day = c.args.day.now;
    }) c.args.out.now.items c.write_new_details.new.out.items c.write_readings.new.out.items c.in_ok-write_new_details.ensures.done)
    c.write_readings.ensures.done

pub returns-in_err-write_new_details-clause-done : goal.returns-in_err-write_new_details-clause-done
returns-in_err-write_new_details-clause-done c = let p = err_from_is_err_and c.from_residual.result c.from_residual.ensures.1 in rw p.1 tt

pub returns-in_err-write_new_details-clause-grown : goal.returns-in_err-write_new_details-clause-grown
returns-in_err-write_new_details-clause-grown c =
    on_err_from c.from_residual.result _
    (c.in_err-write_new_details.ensures.grown)

pub returns-clause-grown : goal.returns-clause-grown
returns-clause-grown c =
    on_err_weaker c.write_readings.result (λ more. begun_after _ _ _ c.in_ok-write_new_details.ensures.done.0 c.in_ok-write_new_details.ensures.done.2 more) c.write_readings.ensures.grown

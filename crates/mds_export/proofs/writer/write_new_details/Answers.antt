use Rattle.std.proofs.Common.{option_map, sym, ◌∙◌}
use Rattle.mds_export.specs.Placed.{PlacedDay}
use Rattle.mds_export.proofs.Writes.{details_new, ok_both}
use Rattle.mds_export.proofs.writer.write_new_details.Goals as goal

pub returns-clause-done : goal.returns-clause-done
returns-clause-done c =
    let placed : PlacedDay = record {
      selected = c.args.selected.now;
      before = option_map (λ before. before.now) c.args.before;
      day = c.args.day.now;
    } in
    ok_both c.write_details.result _ _ _
    (details_new placed c.args.out.now.items c.write_details.new.out.items (sym c.is_governed.ensures ∙ c.if-is_governed.false))
    c.write_details.ensures.lawful c.write_details.ensures.done

use Rattle.std.proofs.Common.{IsTrue, ap, length, rules, arith, ◌∙◌}
use Rattle.mds_pack_rows.specs.PackFacts.{minutes_of}
use Rattle.mds_pack_rows.proofs.SpreadLemmas.{next_said, start_said}
use Rattle.mds_pack_rows.proofs.grouping.readings_by_interval.Goals as goal

pub loop-row-init : goal.loop-row-init
loop-row-init c =
    let it = c.in_ok-readings.ensures in
    record {
      few = it.0;
      says = start_said c.args.update (length c.in_ok-readings.readings.items) c.in_ok-readings.readings.items it.1;
      of_length = it.2;
    }

pub set_reading-requires : goal.set_reading-requires
set_reading-requires c = c.loop-row.invariant.of_length

pub loop-row-preserved : goal.loop-row-preserved
loop-row-preserved c =
    let set : IsTrue c.in_ok-set_reading.field-0 = search rules in
    record {
      few = omega (arith, c.in_ok-set_reading.ensures.len, c.loop-row.invariant.few);
      says = next_said c.args.update c.loop-row.readings.items c.set_reading.new.readings.items c.args.rows.now c.loop-row.row-index c.row-item.result
          c.loop-row-test.true c.row-item.is (c.in_ok-set_reading.ensures.more set) c.loop-row.invariant.says;
      of_length = ap minutes_of c.in_ok-set_reading.ensures.len ∙ c.loop-row.invariant.of_length;
    }

use Rattle.std.proofs.Common.{[], ◌∷◌, ◌∙◌, ap, length, arith}
use Rattle.std.proofs.lemmas.List.{length-append}
use Rattle.mds_registers.proofs.BookReadings.{day_reading_in}
use Rattle.mds_ranges.proofs.DayFacts.{readings_more, readings_whole}
use Rattle.mds_ranges.proofs.readings.current_readings.Goals as goal

pub returns-then-len-count : goal.returns-then-len-count
returns-then-len-count c = λ w is.
    readings_whole w c.args.book.now _ _ c.try_clone.result is (omega arith) c.in-Some.ensures c.try_clone.ensures.value

pub loop-i-preserved : goal.loop-i-preserved
loop-i-preserved c =
    let put = c.in_ok-put_current.ensures in
    record {
      size = ap length put.1 ∙ length-append c.loop-i.readings (put.0 ∷ []) ∙ omega (arith, c.loop-i.invariant.size);
      readings = λ w is.
          readings_more w _ _ _ _ _ _ put.1 (c.loop-i.invariant.readings w is) (day_reading_in w c.args.book.now _ _ is put.2);
    }

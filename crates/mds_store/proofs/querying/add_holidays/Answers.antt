use Rattle.mds_tables.proofs.Adding.{adds_all, adds_more, adds_none}
use Rattle.mds_store.specs.Said.{SaysHoliday}
use Rattle.mds_store.proofs.querying.add_holidays.Goals as goal

pub loop-i-init : goal.loop-i-init
loop-i-init c = adds_none SaysHoliday _

pub loop-i-preserved : goal.loop-i-preserved
loop-i-preserved c =
    adds_more SaysHoliday _ _ c.add_holiday.new.found.keys c.args.rows.now c.loop-i.i c.index-rows-i.result c.loop-i-test.true
    c.index-rows-i.is c.loop-i.invariant c.in_ok-add_holiday.ensures

pub returns : goal.returns
returns c = adds_all SaysHoliday _ _ c.args.rows.now c.loop-i.i c.loop-i-test.false c.loop-i.invariant

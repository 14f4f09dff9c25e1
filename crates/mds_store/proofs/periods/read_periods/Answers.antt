use Rattle.mds_store.proofs.PeriodLemmas.{read_more}
use Rattle.mds_store.proofs.periods.read_periods.Goals as goal

pub loop-i-preserved : goal.loop-i-preserved
loop-i-preserved c =
    read_more c.args.rows.now c.loop-i.i c.index-rows-i.result c.loop-i.periods.items c.push.new.self.items
    c.in_ok-period.period c.loop-i-test.true c.index-rows-i.is c.loop-i.invariant c.in_ok-period.ensures.ok
    c.in_ok-push.ensures.items

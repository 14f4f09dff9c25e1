use Rattle.mds_commit.proofs.Telling.{more_told}
use Rattle.mds_commit.proofs.querying.tell_days.Goals as goal

pub loop-i-preserved : goal.loop-i-preserved
loop-i-preserved c = λ up.
    more_told c.args.rows.now c.loop-i.i c.index-rows-i.result c.loop-i.days.items c.tell_row.new.days.items c.loop-i-test.true
    c.index-rows-i.is up (c.loop-i.invariant up) c.in_ok-tell_row.ensures

use Rattle.mds_memory.proofs.StoredDetails.{loses_more}
use Rattle.mds_memory.proofs.stored_details.take_out.Goals as goal

pub loop-group-preserved : goal.loop-group-preserved
loop-group-preserved c =
    loses_more c.args.kept.now c.loop-group.kept c.take_days.new.kept c.args.some.now c.loop-group.group-index
    c.group-item.result c.loop-group-test.true c.group-item.is c.loop-group.invariant c.take_days.ensures

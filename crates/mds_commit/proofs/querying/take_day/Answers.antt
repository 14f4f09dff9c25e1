use Rattle.mds_commit.proofs.DaysLeft.{one_taken}
use Rattle.mds_commit.proofs.querying.take_day.Goals as goal

pub returns : goal.returns
returns c = one_taken c.args.left.now c.remove.new.self c.args.row.now c.in_ok-day.day (rw c.in_ok-day.ensures at c.day_at.ensures.some) c.remove.ensures.updates.0

use Rattle.std.proofs.Common.{map}
use Rattle.mds_keeper.specs.Content.{version_at}
use Rattle.mds_keeper.proofs.Settled.{IsPartPut}
use Rattle.mds_keeper.proofs.day_merge.settle_some.Given as goal

abbrev pub invariant-loop-i : goal.invariant-loop-i
invariant-loop-i l = IsPartPut l.book l.minutes l.update l.readings l.i (map (version_at l.book.stream l.book.day) l.rows.items)

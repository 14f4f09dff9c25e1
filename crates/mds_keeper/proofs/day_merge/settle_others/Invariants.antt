use Rattle.std.proofs.Common.{◌≡◌}
use Rattle.std.specs.Prelude.{IsTrue}
use Rattle.mds_keeper.specs.Claims.{held_all}
use Rattle.mds_keeper.specs.DayMergeSteps.{claimed_entries}
use Rattle.mds_keeper.proofs.Settled.{IsSettled}
use Rattle.mds_keeper.proofs.day_merge.settle_others.Given as goal

abbrev pub invariant-loop-update : goal.invariant-loop-update
invariant-loop-update l = record {
  settled : IsSettled l.book l.unit l.fn.claimed.entries l.fn.additions l.additions l.update-iterator;
  new : IsTrue l.are_new → held_all l.book (claimed_entries l.book l.update-iterator) ≡ 0;
}

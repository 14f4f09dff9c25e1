use Rattle.std.proofs.Common.{◌≡◌, ◌++◌, map, take}
use Rattle.mds_world.specs.Facts.Fact.{HeadIs}
use Rattle.mds_keeper.specs.Content.{version_fact, versions_of}
use Rattle.mds_memory.specs.Stored.{days_world}
use Rattle.mds_memory.specs.StoredSteps.{AreChanged}
use Rattle.mds_memory.proofs.stored_days.changed_days.Given as goal

abbrev pub invariant-loop-added : goal.invariant-loop-added
invariant-loop-added l = record {
  split : l.yielded ++ l.added-iterator.rest.items ≡ l.fn.versions.items;
  changed : AreChanged (days_world l.days) (map HeadIs (take l.put l.heads.items) ++ map version_fact (versions_of l.yielded)) l.closed l.in_hand;
}

abbrev pub invariant-loop-i : goal.invariant-loop-i
invariant-loop-i l =
    AreChanged (days_world l.days) (map HeadIs (take l.i l.heads.items) ++ map version_fact (versions_of l.fn.versions.items)) l.closed l.in_hand

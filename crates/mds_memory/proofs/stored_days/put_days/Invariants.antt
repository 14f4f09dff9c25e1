use Rattle.std.specs.BTreeMap.{IsOrdered}
use Rattle.mds_memory.specs.Stored.{place_cmp}
use Rattle.mds_memory.proofs.StoredDays.{ArePut}
use Rattle.mds_memory.proofs.stored_days.put_days.Given as goal

abbrev pub invariant-loop-place : goal.invariant-loop-place
invariant-loop-place l = record {
  put : ArePut l.fn.days.entries l.fn.changed.entries l.place-iterator l.days.entries;
  ordered : IsOrdered place_cmp l.days;
}

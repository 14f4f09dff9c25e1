use Rattle.std.proofs.Common.{◌≡◌, ◌-◌, ◌*◌, ◌≤◌, take}
use Rattle.std.specs.Prelude.{unsigned_abs}
use Rattle.mds_quantity.specs.Quantity.{limit}
use Rattle.mds_fill.specs.Fills.{count_some, total}
use Rattle.mds_fill.proofs.sources.sum_and_count.Given as goal

abbrev pub invariant-loop-slot : goal.invariant-loop-slot
invariant-loop-slot l = record {
  sum : l.sum ≡ total (take l.slot-index l.values);
  count : l.count ≡ count_some (take l.slot-index l.values);
  few : l.count ≤ l.slot-index;
  bound : unsigned_abs l.sum ≤ (limit - 1) * l.count;
}

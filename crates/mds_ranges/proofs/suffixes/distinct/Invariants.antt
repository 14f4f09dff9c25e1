use Rattle.std.proofs.Common.{◌≡◌, ◌-◌, ◌≤◌, length, take}
use Rattle.mds_ranges.proofs.InOrder.{AreUpTo}
use Rattle.mds_ranges.proofs.suffixes.distinct.Given as goal

abbrev pub invariant-loop-next : goal.invariant-loop-next
invariant-loop-next l = record {
  within : l.count ≤ 8;
  eight : length l.places ≡ 8;
  distinct : AreUpTo l.last l.suffixes (take l.count l.places);
}

abbrev pub decreases-loop-next : goal.decreases-loop-next
decreases-loop-next l = 8 - l.count

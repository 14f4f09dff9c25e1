use Rattle.std.proofs.Common.{◌≡◌, ◌++◌, map, take}
use Rattle.mds_ranges.proofs.registers.add_gaps.Given as goal

abbrev pub invariant-loop-gap : goal.invariant-loop-gap
invariant-loop-gap l =
    l.rows.items ≡ l.initial.rows.items ++ map (λ gap. record { day = l.day; gap = gap }) (take l.gap-index l.gap-items)

use Rattle.std.proofs.Common.{◌≡◌, ◌++◌, map}
use Rattle.mds_ranges.proofs.registers.add_finals.Given as goal

abbrev pub invariant-loop-stretch : goal.invariant-loop-stretch
invariant-loop-stretch l =
    l.rows.items ≡ l.initial.rows.items ++ map (λ stretch. record { day = l.day; stretch = stretch }) l.yielded

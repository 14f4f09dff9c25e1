use Rattle.std.proofs.Common.{◌≡◌, Some, map, take}
use Rattle.mds_pack_rows.proofs.grouping.places_of.Given as goal

abbrev pub invariant-loop-i : goal.invariant-loop-i
invariant-loop-i l = l.places.items ≡ map (λ reading. Some reading) (take l.i l.readings)

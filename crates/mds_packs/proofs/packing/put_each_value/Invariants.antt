use Rattle.std.proofs.Common.{◌≡◌, ◌++◌, take}
use Rattle.std.specs.List.{flat_map}
use Rattle.mds_marks.specs.Reading.{ReadingValue}
use Rattle.mds_packs.specs.Body.{value_bytes}
use Rattle.mds_packs.proofs.packing.put_each_value.Given as goal

abbrev pub invariant-loop-at : goal.invariant-loop-at
invariant-loop-at l = l.out.items ≡ l.initial.out.items ++ flat_map (λ (r : ReadingValue). value_bytes r.value) (take l.at l.readings)

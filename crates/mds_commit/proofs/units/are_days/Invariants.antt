use Rattle.std.proofs.Common.{◌<◌, ◌^◌, take}
use Rattle.std.specs.List.{AllByRecursion}
use Rattle.mds_world.specs.declared.facts.Head.{Head}
use Rattle.mds_commit.proofs.units.are_days.Given as goal

abbrev pub invariant-loop-head : goal.invariant-loop-head
invariant-loop-head l = AllByRecursion (λ (head : Head). head.day < 2 ^ 63) (take l.head-index l.heads)

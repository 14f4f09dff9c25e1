use Rattle.std.proofs.Common.{length, ◌+◌}
use Rattle.mds_memory.proofs.Streams.{AreMerged}
use Rattle.mds_memory.proofs.memory.merged.Given as goal

abbrev pub invariant-streams : goal.invariant-streams
invariant-streams l = AreMerged l.fn.a l.fn.b l.left_a l.left_b l.streams.items

abbrev pub decreases-streams : goal.decreases-streams
decreases-streams l = length l.left_a + length l.left_b

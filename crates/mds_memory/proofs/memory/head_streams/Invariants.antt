use Rattle.mds_memory.proofs.Streams.{IsHeadRun}
use Rattle.mds_memory.proofs.memory.head_streams.Given as goal

abbrev pub invariant-loop-place : goal.invariant-loop-place
invariant-loop-place l = IsHeadRun l.fn.days l.streams.items l.place-iterator

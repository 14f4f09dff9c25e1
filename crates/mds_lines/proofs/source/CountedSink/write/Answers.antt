use Rattle.std.proofs.Common.{arith}
use Rattle.mds_lines.proofs.StreamFacts.{Keeps_same, Keeps_keeps, Keeps_appends}
use Rattle.mds_lines.proofs.source.CountedSink.write.Goals as goal

pub loop-init : goal.loop-init
loop-init g c = (omega arith, Keeps_same _)

pub returns-in-Ok-clause-bytes : goal.returns-in-Ok-clause-bytes
returns-in-Ok-clause-bytes g c = rw c.in-Ok.count-is (Keeps_appends _ _ _ _ c.loop.invariant.1 c.in-Ok.ensures.bytes)

pub returns-in-Err-2-clause-bytes : goal.returns-in-Err-2-clause-bytes
returns-in-Err-2-clause-bytes g c = Keeps_keeps _ _ _ c.loop.invariant.1 c.in-Err-2.ensures.bytes

pub loop-preserved : goal.loop-preserved
loop-preserved g c = (omega arith, Keeps_keeps _ _ _ c.loop.invariant.1 c.in-Err.ensures.bytes)

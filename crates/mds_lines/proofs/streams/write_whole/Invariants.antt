use Rattle.std.proofs.Common.{◌≡◌, length}
use Rattle.mds_lines.proofs.StreamSteps.{Wrote}
use Rattle.mds_lines.proofs.streams.write_whole.Given as goal

abbrev pub invariant-loop-rest : goal.invariant-loop-rest
invariant-loop-rest g l = record {
  wrote : Wrote l.text l.rest (g.W.Sink.contents l.fn.writer) (g.W.Sink.contents l.writer);
  failures : g.W.Sink.failures l.writer ≡ g.W.Sink.failures l.fn.writer;
}

abbrev pub decreases-loop-rest : goal.decreases-loop-rest
decreases-loop-rest g l = length l.rest

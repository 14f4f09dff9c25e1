use Rattle.std.proofs.Common.{◌≡◌}
use Rattle.std.specs.Io.KnownBytes.{Keeps}
use Rattle.mds_lines.proofs.source.CountedSink.write.Given as goal

abbrev pub invariant-loop : goal.invariant-loop
invariant-loop g l = (l.self.failures ≡ l.fn.self.failures) × Keeps (g.T.Write.contents l.fn.self.inner) (g.T.Write.contents l.self.inner)

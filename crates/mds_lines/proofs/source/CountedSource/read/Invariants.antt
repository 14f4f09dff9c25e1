use Rattle.std.proofs.Common.{◌≡◌}
use Rattle.std.specs.Io.KnownBytes.{Keeps}
use Rattle.mds_lines.proofs.source.CountedSource.read.Given as goal

abbrev pub invariant-loop : goal.invariant-loop
invariant-loop g l = (l.self.failures ≡ l.fn.self.failures) × Keeps (g.T.Read.remaining l.fn.self.inner) (g.T.Read.remaining l.self.inner)

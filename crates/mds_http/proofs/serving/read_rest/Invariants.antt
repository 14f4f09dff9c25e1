use Rattle.std.proofs.Common.{◌≡◌, length}
use Rattle.mds_http.proofs.Rests.{HasBrought}
use Rattle.mds_http.proofs.serving.read_rest.Given as goal

abbrev pub invariant-loop : goal.invariant-loop
invariant-loop g l = record {
  size : length l.block ≡ 16384;
  brought : HasBrought g.E.Source.gives l.fn.rest l.rest (g.E.Source.remaining l.fn.rest) (g.E.Source.remaining l.rest) l.counter;
  failures : g.E.Source.failures l.rest ≡ g.E.Source.failures l.fn.rest;
}

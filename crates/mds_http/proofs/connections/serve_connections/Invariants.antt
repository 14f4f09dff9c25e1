use Rattle.mds_http.specs.Connections.{HasServed}
use Rattle.mds_http.proofs.connections.serve_connections.Given as goal

abbrev pub invariant-loop : goal.invariant-loop
invariant-loop g l = HasServed g.K.Keeper.kept l.initial.handler l.counter l.handler

use Rattle.std.proofs.Common.{[], refl, arith}
use Rattle.mds_http.proofs.Served.{more_served, most_served}
use Rattle.mds_http.proofs.connections.serve_connections.Goals as goal

pub loop-init : goal.loop-init
loop-init g c = ([], omega arith, refl)

pub loop-preserved : goal.loop-preserved
loop-preserved g c = more_served _ _ _ _ _ c.loop.invariant c.serve_next.ensures

pub returns : goal.returns
returns g c = most_served _ _ _ _ _ c.loop.auto.counter-end c.loop.invariant

pub returns-in-None : goal.returns-in-None
returns-in-None g c =
    most_served _ _ _ _ _ (omega (arith, c.loop-test.true)) (more_served _ _ _ _ _ c.loop.invariant c.serve_next.ensures)

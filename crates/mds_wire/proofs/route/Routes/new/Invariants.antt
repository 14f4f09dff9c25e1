use Rattle.std.proofs.Common.{◌≡◌, take}
use Rattle.mds_wire.specs.Routes.{routes}
use Rattle.mds_wire.specs.RouteSteps.{rows_of}
use Rattle.mds_wire.proofs.route.Routes.new.Given as goal

-- the routes so far have their rows
abbrev pub invariant-loop-route : goal.invariant-loop-route
invariant-loop-route l = l.router ≡ rows_of (take l.route-index routes)

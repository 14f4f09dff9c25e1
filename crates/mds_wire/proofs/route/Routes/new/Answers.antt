use Rattle.std.proofs.Common.{rules, ◌≡◌, ap, ◌∙◌}
use Rattle.mds_wire.specs.Routes.{routes}
use Rattle.mds_wire.specs.RouteSteps.{routes_in, rows_of}
use Rattle.mds_wire.proofs.RouteRows.{inserted, only_memory, routes_known}
use Rattle.mds_wire.proofs.route.Routes.new.Goals as goal

pub unreachable-requires : goal.unreachable-requires
unreachable-requires c =
    let told = rw (c.template.ensures, c.loop-route.invariant, c.in-Err.is) at c.insert.ensures in
    c.in_default-error.not-OutOfMemory (only_memory c.loop-route.route-index c.loop-route-test.true c.insert.new.self c.in-Err.error told)

pub loop-route-preserved : goal.loop-route-preserved
loop-route-preserved c =
    let told = rw (c.template.ensures, c.loop-route.invariant, c.in_default.is) at c.insert.ensures in
    inserted c.loop-route.route-index c.loop-route-test.true c.insert.new.self told

pub returns : goal.returns
returns c =
    let all : c.loop-route.router ≡ rows_of routes = search rules in
    ap routes_in all ∙ routes_known

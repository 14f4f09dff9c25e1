-- What the router of `matchit` holds for routes. No public contract cites it.
use Rattle.std.specs.Prelude.{ℕ, List, [], ◌∷◌, ◌++◌, map, Result, Ok, Err}
use Rattle.matchit.specs.Route.{Scan, parse_route}
use Rattle.matchit.specs.Router.{RouteOf, route_from}
use Rattle.matchit.specs.Rows.{RowsOf}
use Rattle.matchit.specs.declared.error.InsertError.{InsertError}
use Rattle.mds_wire.specs.declared.route.Route.{Route}
use Rattle.mds_wire.specs.Routes.{template_of}

-- the row of a route whose text was read
abbrev pub row_of : Result Scan InsertError → Route → RowsOf (RouteOf Route)
row_of (Ok scan) route = (scan.pattern, route_from scan route) ∷ []
row_of (Err fault) route = []

-- the rows of routes, one for each and in their order
abbrev pub rows_of : List Route → RowsOf (RouteOf Route)
rows_of [] = []
rows_of (route ∷ routes) = row_of (parse_route (template_of route)) route ++ rows_of routes

-- the routes of rows
abbrev pub routes_in : RowsOf (RouteOf Route) → List Route
routes_in rows = map (λ row. row.1.value) rows

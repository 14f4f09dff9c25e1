use Rattle.std.proofs.Common.{sym, ◌∙◌, ap}
use Rattle.matchit.specs.Seek.{first}
use Rattle.mds_wire.proofs.Texts.{text_from_utf8}
use Rattle.mds_wire.proofs.RouteRows.{routed, value_of}
use Rattle.mds_wire.proofs.route.RoutesRouteFinder.find.Goals as goal

pub returns-in-Ok : goal.returns-in-Ok
returns-in-Ok c =
    let path = c.args.path.now in
    let found = ap (λ rows. first rows path) (sym c.self.invariant) ∙ c.in-Ok.ensures.found in
    sym (ap value_of found) ∙ routed path (text_from_utf8 path c.utf8.path)

pub returns-in-Err : goal.returns-in-Err
returns-in-Err c =
    let path = c.args.path.now in
    let missing = ap (λ rows. first rows path) (sym c.self.invariant) ∙ c.in-Err.ensures.missing in
    sym (ap value_of missing) ∙ routed path (text_from_utf8 path c.utf8.path)

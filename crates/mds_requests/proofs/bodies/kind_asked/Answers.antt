use Rattle.std.proofs.Common.{◌≡◌, true, sym, ap, rules, ◌∙◌}
use Rattle.mds_requests.specs.Queries.{has_only}
use Rattle.mds_requests.specs.QuerySteps.{texts_of}
use Rattle.mds_requests.specs.Targets.{import_names, kind_asked}
use Rattle.mds_requests.proofs.ImportKinds.{one_kind, several_kinds}
use Rattle.mds_requests.proofs.bodies.kind_asked.Goals as goal

pub returns-then-is_empty : goal.returns-then-is_empty
returns-then-is_empty c = ap kind_asked (sym (c.is_empty.ensures.0 c.if-is_empty.true))

pub returns-in-Some : goal.returns-in-Some
returns-in-Some c =
    let all : has_only import_names (texts_of c.args.query.now) ≡ true = sym c.has_only.ensures ∙ c.if-not-has_only.false in
    let is = rw c.in-Some.is at c.value.ensures in
    c.kind_of.ensures ∙ sym (one_kind (texts_of c.args.query.now) c.in-Some.name.now all (sym is))

pub returns-in-None : goal.returns-in-None
returns-in-None c =
    let all : has_only import_names (texts_of c.args.query.now) ≡ true = sym c.has_only.ensures ∙ c.if-not-has_only.false in
    let is = rw c.in-None.is at c.value.ensures in
    sym (several_kinds (texts_of c.args.query.now) all (λ none. search (rules, none, c.is_empty.ensures, c.if-is_empty.false)) (sym is))

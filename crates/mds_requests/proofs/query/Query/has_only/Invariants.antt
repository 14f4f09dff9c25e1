use Rattle.std.proofs.Common.{◌≡◌, ◌++◌, drop, map}
use Rattle.mds_requests.specs.Queries.{has_only}
use Rattle.mds_requests.specs.QuerySteps.{texts_in}
use Rattle.mds_requests.proofs.query.Query.has_only.Given as goal

-- what is left decides
abbrev pub invariant-loop-name : goal.invariant-loop-name
invariant-loop-name l =
    let all = map (λ name. name.now) l.names ++ map (λ name. name.now) l.others in
    has_only all (texts_in l.self.pairs.items) ≡ has_only all (texts_in (drop l.name-index l.name-items))

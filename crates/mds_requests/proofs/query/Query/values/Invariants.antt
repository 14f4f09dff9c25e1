use Rattle.std.proofs.Common.{◌≡◌, ◌++◌, drop, map}
use Rattle.mds_requests.specs.Queries.{values_named}
use Rattle.mds_requests.specs.QuerySteps.{texts_in}
use Rattle.mds_requests.proofs.query.Query.values.Given as goal

-- the values are those that were found, and those in what is left
abbrev pub invariant-loop-key : goal.invariant-loop-key
invariant-loop-key l =
    values_named l.name (texts_in l.self.pairs.items) ≡ map (λ value. value.now) l.values.items ++ values_named l.name (texts_in (drop l.key-index l.key-items))

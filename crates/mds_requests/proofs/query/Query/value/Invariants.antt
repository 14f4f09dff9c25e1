use Rattle.std.proofs.Common.{◌≡◌, ◌++◌, drop}
use Rattle.mds_requests.specs.Queries.{values_named}
use Rattle.mds_requests.specs.QuerySteps.{texts_in}
use Rattle.mds_requests.proofs.Pairs.{held}
use Rattle.mds_requests.proofs.query.Query.value.Given as goal

-- the values are what was found, and those in what is left
abbrev pub invariant-loop-key : goal.invariant-loop-key
invariant-loop-key l =
    values_named l.name (texts_in l.self.pairs.items) ≡ held l.found ++ values_named l.name (texts_in (drop l.key-index l.key-items))

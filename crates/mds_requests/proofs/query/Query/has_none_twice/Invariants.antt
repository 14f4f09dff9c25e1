use Rattle.std.proofs.Common.{◌≡◌, Bool, List, ℕ, drop, length, map}
use Rattle.std.specs.Prelude.{nat_lt}
use Rattle.std.specs.List.{list_all}
use Rattle.mds_requests.specs.Queries.{values_named}
use Rattle.mds_requests.specs.QuerySteps.{texts_of}
use Rattle.mds_requests.proofs.query.Query.has_none_twice.Given as goal

-- what is left decides
abbrev pub invariant-loop-name : goal.invariant-loop-name
invariant-loop-name l =
    let at_most_once : List ℕ → Bool = λ name. nat_lt (length (values_named name (texts_of l.self))) 2 in
    list_all at_most_once (map (λ name. name.now) l.names) ≡ list_all at_most_once (map (λ name. name.now) (drop l.name-index l.names))

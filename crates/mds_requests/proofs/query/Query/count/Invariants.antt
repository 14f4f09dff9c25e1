use Rattle.std.proofs.Common.{◌≡◌, ◌+◌, ◌≤◌, drop, length}
use Rattle.mds_requests.specs.Queries.{values_named}
use Rattle.mds_requests.specs.QuerySteps.{texts_in}
use Rattle.mds_requests.proofs.query.Query.count.Given as goal

-- the values are as many as were counted, and those in what is left
abbrev pub invariant-loop-key : goal.invariant-loop-key
invariant-loop-key l = record {
  all : length (values_named l.name (texts_in l.self.pairs.items)) ≡ l.count + length (values_named l.name (texts_in (drop l.key-index l.key-items)));
  few : l.count ≤ l.key-index;
}

use Rattle.std.proofs.Common.{◌≡◌, ◌++◌}
use Rattle.form_urlencoded.specs.Parse.{pairs_left}
use Rattle.mds_requests.specs.Queries.{pairs_of}
use Rattle.mds_requests.specs.QuerySteps.{texts_in}
use Rattle.mds_requests.proofs.Pairs.{decoded_all}
use Rattle.mds_requests.proofs.query.Query.read.Given as goal

-- the pairs are those that were read, and those that are left
abbrev pub invariant-loop-pair : goal.invariant-loop-pair
invariant-loop-pair l = pairs_of l.query ≡ texts_in l.pairs.items ++ decoded_all (pairs_left l.pair-iterator)

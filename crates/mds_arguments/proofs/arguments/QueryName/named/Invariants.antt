use Rattle.std.proofs.Common.{◌≡◌, bytes_eq, drop, map}
use Rattle.std.specs.List.{list_any}
use Rattle.mds_arguments.specs.Arguments.{is_query_name, query_name}
use Rattle.mds_arguments.proofs.arguments.QueryName.named.Given as goal

-- what is left decides
abbrev pub invariant-loop-query : goal.invariant-loop-query
invariant-loop-query l = is_query_name l.name ≡ list_any (λ known. bytes_eq known l.name) (map query_name (drop l.query-index l.query-items))

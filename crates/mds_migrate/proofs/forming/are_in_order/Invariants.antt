use Rattle.mds_migrate.proofs.FormingLemmas.{RiseTo}
use Rattle.mds_migrate.proofs.forming.are_in_order.Given as goal

abbrev pub invariant-loop-k : goal.invariant-loop-k
invariant-loop-k l = RiseTo l.rows l.k

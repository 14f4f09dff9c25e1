use Rattle.std.proofs.Common.{rules, arith, leb}
use Rattle.std.proofs.lemmas.Bool.{leb-false, leb-true}
use Rattle.std.proofs.lemmas.List.Sorted.{IsPartitionPoint-from_clause, IsPartitionedBy-leb}
use Rattle.mds_ranges.proofs.Lasting.{by_day, rows_taken}
use Rattle.mds_ranges.proofs.selecting.rows_upto.Goals as goal

pub returns : goal.returns
returns c = λ w s first last to are.
    let p = IsPartitionPoint-from_clause (λ y. leb y.0 c.args.day) c.args.rows.now c.partition_point.result
    c.partition_point.ensures.partitioned
    (IsPartitionedBy-leb (λ y. y.0) c.args.rows.now c.args.day (by_day c.args.rows.now are.ascending))
    (λ a r f' k. search rules) in
    rows_taken w s first c.args.day last c.partition_point.result c.args.rows.now c.partition_point.ensures.bound
    (λ k d h. leb-true _ _ (p.0 k d (omega arith) h)) (λ k d h j. leb-false _ _ (p.1 k d h j)) to are

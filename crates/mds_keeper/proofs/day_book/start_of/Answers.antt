use Rattle.std.proofs.Common.{rules, arith, ltb}
use Rattle.std.proofs.lemmas.List.Sorted.{IsPartitionPoint-from_clause, IsPartitionedBy-ltb}
use Rattle.std.proofs.lemmas.Bool.{ltb-true, ltb-false}
use Rattle.mds_keeper.proofs.BookPlaces.{by_interval}
use Rattle.mds_keeper.proofs.day_book.start_of.Goals as goal

pub returns : goal.returns
returns c =
    let p = IsPartitionPoint-from_clause (λ y. ltb y.0 c.args.interval) c.args.rows.now c.partition_point.result
    c.partition_point.ensures.partitioned
    (IsPartitionedBy-ltb (λ y. y.0) c.args.rows.now c.args.interval (by_interval c.args.rows.now c.requires))
    (λ a r f' k. search rules) in
    record {
      within = c.partition_point.ensures.bound;
      below = λ k d h. ltb-true _ _ (p.0 k d (omega arith) h);
      from = λ k d h j. ltb-false _ _ (p.1 k d h j);
    }

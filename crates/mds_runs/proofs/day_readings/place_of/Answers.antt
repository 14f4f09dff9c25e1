use Rattle.std.proofs.Common.{rules, arith, leb}
use Rattle.std.proofs.lemmas.List.Sorted.{IsPartitionPoint-from_clause, IsPartitionedBy-leb}
use Rattle.std.proofs.lemmas.Bool.{leb-true, leb-false}
use Rattle.mds_runs.proofs.CloseRuns.{ends_rise}
use Rattle.mds_runs.specs.declared.cover.Run.{Run}
use Rattle.mds_runs.proofs.day_readings.place_of.Goals as goal

pub returns : goal.returns
returns c =
    let p = IsPartitionPoint-from_clause (λ (run : Run). leb run.last c.args.at) c.args.runs.now c.partition_point.result
    c.partition_point.ensures.partitioned
    (IsPartitionedBy-leb (λ (run : Run). run.last) c.args.runs.now c.args.at (λ i j d le lt. ends_rise 0 c.args.runs.now c.requires.0 i j d c.requires.1 le lt))
    (λ a r f k. search rules) in
    record {
      within = c.partition_point.ensures.bound;
      before = λ k d h. leb-true _ _ (p.0 k d (omega arith) h);
      after = λ k d h j. leb-false _ _ (p.1 k d h j);
    }

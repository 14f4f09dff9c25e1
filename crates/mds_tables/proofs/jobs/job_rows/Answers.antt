use Rattle.mds_tables.specs.MadeRows.{IsRowOfJob}
use Rattle.mds_tables.proofs.RowLemmas.{rows_more}
use Rattle.mds_tables.proofs.jobs.job_rows.Goals as goal

pub loop-i-preserved : goal.loop-i-preserved
loop-i-preserved c =
    rows_more IsRowOfJob c.args.jobs.now c.loop-i.i c.index-jobs-i.result c.loop-i.rows.items c.push.new.self.items
    c.in_ok-row.row c.loop-i-test.true c.index-jobs-i.is c.loop-i.invariant c.in_ok-row.ensures
    c.in_ok-push.ensures.items

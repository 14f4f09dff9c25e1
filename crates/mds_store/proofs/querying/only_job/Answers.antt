use Rattle.mds_store.proofs.querying.only_job.Goals as goal

pub returns : goal.returns
returns c = (c.in-Some.row.now, rw c.in-Some.is at c.in_ok-row.ensures.ok, c.in_ok-job.ensures)

use Rattle.mds_memory.proofs.StoredJobs.{ArePut}
use Rattle.mds_memory.proofs.stored_jobs.put_jobs.Given as goal

abbrev pub invariant-loop-job : goal.invariant-loop-job
invariant-loop-job l = ArePut l.fn.jobs l.fn.more.items l.job-iterator.rest.items l.jobs

use Rattle.std.proofs.Common.{take}
use Rattle.mds_memory.proofs.StoredJobs.{IsRoom}
use Rattle.mds_memory.proofs.stored_jobs.make_places.Given as goal

abbrev pub invariant-loop-job : goal.invariant-loop-job
invariant-loop-job l = IsRoom l.fn.jobs (take l.job-index l.more) l.jobs

use Rattle.std.proofs.Common.{sym}
use Rattle.mds_keeper.specs.Queries.{IsJobOf}
use Rattle.mds_memory.specs.Stored.{jobs_world}
use Rattle.mds_memory.proofs.Places.{if_ok_at}
use Rattle.mds_memory.proofs.StoredJobs.{job_absent, job_found}
use Rattle.mds_memory.proofs.stored_jobs.job_of.Goals as goal

pub returns-in-Some : goal.returns-in-Some
returns-in-Some c = if_ok_at c.copied.result c.in-Some.kept.now (IsJobOf (jobs_world c.args.jobs.now) c.args.id.now)
    c.copied.ensures (job_found c.args.jobs.now c.args.id.now c.in-Some.kept.now c.requires (sym c.in-Some.ensures.value))

pub returns-in-None : goal.returns-in-None
returns-in-None c = job_absent c.args.jobs.now c.args.id.now c.requires (sym c.in-None.ensures.value)

use Rattle.mds_memory.proofs.Notes.{none_left}
use Rattle.mds_memory.proofs.StoredJobs.{put_room, put_start, put_step, put_world}
use Rattle.mds_memory.proofs.stored_jobs.put_jobs.Goals as goal

pub loop-job-init : goal.loop-job-init
loop-job-init c =
    put_start c.args.jobs.now c.args.more.items _ c.requires.room c.requires.theirs
    c.into_iter-job-iterator.ensures.into_iter_gives.0

pub unreachable-requires : goal.unreachable-requires
unreachable-requires c =
    put_room c.args.jobs.now c.args.more.items _ c.next.new.self.rest.items c.loop-job.jobs (c.in-Some.job, c.in-Some.count)
    c.loop-job.invariant c.in-Some.ensures.steps.0 c.in_default.ensures.absent

pub loop-job-preserved-in-Ok : goal.loop-job-preserved-in-Ok
loop-job-preserved-in-Ok c =
    put_step c.args.jobs.now c.args.more.items _ c.next.new.self.rest.items c.loop-job.jobs c.insert.new.self
    (c.in-Some.job, c.in-Some.count) c.loop-job.invariant c.requires.lawful c.in-Some.ensures.steps.0
    c.in-Ok.ensures.entries c.insert.ensures.ordered

pub loop-job-preserved-in-Ok-2 : goal.loop-job-preserved-in-Ok-2
loop-job-preserved-in-Ok-2 c =
    put_step c.args.jobs.now c.args.more.items _ c.next.new.self.rest.items c.loop-job.jobs c.insert.new.self
    (c.in-Some.job, c.in-Some.count) c.loop-job.invariant c.requires.lawful c.in-Some.ensures.steps.0
    c.in-Ok.ensures.entries c.insert.ensures.ordered

pub loop-job-preserved-in-Ok-3 : goal.loop-job-preserved-in-Ok-3
loop-job-preserved-in-Ok-3 c =
    put_step c.args.jobs.now c.args.more.items _ c.next.new.self.rest.items c.loop-job.jobs c.insert.new.self
    (c.in-Some.job, c.in-Some.count) c.loop-job.invariant c.requires.lawful c.in-Some.ensures.steps.0
    c.in-Ok.ensures.entries c.insert.ensures.ordered

pub returns-clause-put : goal.returns-clause-put
returns-clause-put c =
    put_world c.args.jobs.now c.args.more.items _ c.loop-job.jobs c.loop-job.invariant
    (none_left _ _ c.loop-job.job-iterator.rest.ok.0 c.in-None.ensures.steps.0)

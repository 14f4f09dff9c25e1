use Rattle.mds_memory.proofs.Places.{is_absent, is_there}
use Rattle.mds_memory.proofs.StoredJobs.{room_added, room_there, same_theirs}
use Rattle.mds_memory.proofs.stored_jobs.make_places.Goals as goal
use Rattle.mds_memory.proofs.stored_jobs.make_places.Goals.{then-not-contains_key+in_ok-insert+in-Some+in-Some-branch-3, then-not-contains_key+in_ok-insert+in-Some+in-None-1, then-not-contains_key+in_ok-insert+in-None-1, else-not-contains_key}

pub returns-in_err-insert-clause-theirs : goal.returns-in_err-insert-clause-theirs
returns-in_err-insert-clause-theirs c = λ t. same_theirs _ _ c.in_err-insert.ensures.err (c.loop-job.invariant.theirs t)

pub loop-job-preserved : goal.loop-job-preserved
loop-job-preserved c = elim c.if-not-contains_key.branch [
  | then-not-contains_key+in_ok-insert+in-Some+in-Some-branch-3 w ↦ rw w.jobs-is
      (room_added c.args.jobs.now c.loop-job.jobs w.insert.new.self c.args.more.now c.loop-job.job-index c.loop-job-item.result
      c.loop-job-test.true c.loop-job-item.is c.loop-job.invariant (is_absent _ w.if-not-contains_key.ensures)
      w.in_ok-insert.ensures.entries w.insert.ensures.ordered)
  | then-not-contains_key+in_ok-insert+in-Some+in-None-1 w ↦ rw w.jobs-is
      (room_added c.args.jobs.now c.loop-job.jobs w.insert.new.self c.args.more.now c.loop-job.job-index c.loop-job-item.result
      c.loop-job-test.true c.loop-job-item.is c.loop-job.invariant (is_absent _ w.if-not-contains_key.ensures)
      w.in_ok-insert.ensures.entries w.insert.ensures.ordered)
  | then-not-contains_key+in_ok-insert+in-None-1 w ↦ rw w.jobs-is
      (room_added c.args.jobs.now c.loop-job.jobs w.insert.new.self c.args.more.now c.loop-job.job-index c.loop-job-item.result
      c.loop-job-test.true c.loop-job-item.is c.loop-job.invariant (is_absent _ w.if-not-contains_key.ensures)
      w.in_ok-insert.ensures.entries w.insert.ensures.ordered)
  | else-not-contains_key w ↦ rw w.jobs-is
      (let there = is_there _ w.if-not-contains_key.ensures in
      room_there c.args.jobs.now c.loop-job.jobs c.args.more.now c.loop-job.job-index c.loop-job-item.result there.0
      c.loop-job-test.true c.loop-job-item.is c.loop-job.invariant there.1)
]

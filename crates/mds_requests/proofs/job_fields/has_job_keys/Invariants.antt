use Rattle.mds_requests.proofs.JobKeys.{StillSame}
use Rattle.mds_requests.proofs.job_fields.has_job_keys.Given as goal

abbrev pub invariant-loop-key : goal.invariant-loop-key
invariant-loop-key l = StillSame l.fn.value l.key-iterator l.left

use Rattle.std.proofs.Common.{◌-◌, length, arith}
use Rattle.mds_jobs.specs.IdSteps.{padded}
use Rattle.mds_jobs.proofs.IdLemmas.{fronts_same, id_utf8, ok_from, same_fronts, same_order}
use Rattle.mds_jobs.proofs.job_id.JobId.text.Goals as goal

pub unwrap-requires : goal.unwrap-requires
unwrap-requires c = ok_from c.from_utf8.result _ _ c.from_utf8.ensures.cases (λ e q. q.0 (id_utf8 _ c.self.invariant.id))

pub returns-clause-equal : goal.returns-clause-equal
returns-clause-equal c = λ other. (
  same_fronts c.args.self.now other _ _,
  λ e. rw (← e) (fronts_same (padded c.args.self.now) c.args.self.now),
)

pub returns-clause-order : goal.returns-clause-order
returns-clause-order c = λ other.
    same_order (36 - length c.args.self.now) (36 - length other) c.args.self.now other (λ h. omega arith) (λ h. omega arith)

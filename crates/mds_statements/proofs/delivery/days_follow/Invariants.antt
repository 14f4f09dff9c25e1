use Rattle.std.proofs.Common.{◌≡◌, drop}
use Rattle.mds_statements.specs.OrderlySteps.{days_follow}
use Rattle.mds_statements.proofs.delivery.days_follow.Given as goal

abbrev pub invariant-loop-day : goal.invariant-loop-day
invariant-loop-day l = days_follow l.count l.fn.before l.days ≡ days_follow l.count l.last (drop l.day-index l.days)

use Rattle.mds_commit.proofs.DaysLeft.{within}
use Rattle.mds_commit.proofs.querying.ends_of.Goals as goal

pub returns-clause-some : goal.returns-clause-some
returns-clause-some c =
    within c.args.days.now.keys c.in_ok-first.field-0.now c.in_ok-last.field-0.now c.in_ok-first.ensures.all_from
    c.in_ok-last.ensures.all_up_to

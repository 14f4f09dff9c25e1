use Rattle.std.proofs.Common.{arith, rules, tests}
use Rattle.mds_jobs.specs.Jobs.{content_of}
use Rattle.mds_fill.proofs.TargetLemmas.{all_more, not_all}
use Rattle.mds_fill.proofs.usable.has_all.Goals as goal

pub returns-then-is_none : goal.returns-then-is_none
returns-then-is_none c = λ w d is.
    not_all w (content_of c.args.job.now) d c.loop-interval.interval c.usable_value.result (search (rules, tests))
    (c.usable_value.ensures w d is) (omega arith) (omega arith)

pub loop-interval-preserved : goal.loop-interval-preserved
loop-interval-preserved c = λ w d is.
    all_more w (content_of c.args.job.now) d c.loop-interval.interval c.usable_value.result (search (rules, tests))
    (c.usable_value.ensures w d is) (c.loop-interval.invariant w d is)

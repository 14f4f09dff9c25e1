use Rattle.std.proofs.Common.{arith}
use Rattle.mds_fill.specs.Fills.{IsProtected}
use Rattle.mds_fill.proofs.TargetLemmas.{is_least, none_least, none_more}
use Rattle.mds_fill.proofs.targets.first_protected.Goals as goal

pub returns-then-is_protected : goal.returns-then-is_protected
returns-then-is_protected c = λ w is. let job = c.args.job.now in
    is_least (λ i. IsProtected w job.stream job.day i) job.first job.last c.loop-interval.interval (omega arith) (omega arith)
    (c.if-is_protected.ensures w job.stream job.day is) (c.loop-interval.invariant w is)

pub loop-interval-preserved : goal.loop-interval-preserved
loop-interval-preserved c = λ w is. let job = c.args.job.now in
    none_more (λ i. IsProtected w job.stream job.day i) job.first c.loop-interval.interval
    (c.if-is_protected.ensures w job.stream job.day is) (c.loop-interval.invariant w is)

pub returns : goal.returns
returns c = λ w is. let job = c.args.job.now in
    none_least (λ i. IsProtected w job.stream job.day i) job.first job.last c.loop-interval.interval (omega arith)
    (c.loop-interval.invariant w is)

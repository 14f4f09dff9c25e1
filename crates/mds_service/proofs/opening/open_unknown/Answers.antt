use Rattle.mds_service.proofs.Opened.{empty_is_day}
use Rattle.mds_service.proofs.opening.open_unknown.Goals as goal

pub loop-number-preserved : goal.loop-number-preserved
loop-number-preserved c = λ w facts unknown merges.
    c.in_ok-open_day.ensures w facts
    (empty_is_day w c.args.stream.now c.args.first c.args.end c.loop-number.number c.in-Some.book c.in-Some.ensures
    c.loop-number.auto.number c.loop-number-test.true unknown)
    (c.loop-number.invariant w facts unknown merges)

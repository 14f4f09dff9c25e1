use Rattle.mds_keeper.proofs.Planned.{planned, planning_more, planning_stop, start_planning}
use Rattle.mds_keeper.proofs.day_book.DayBook.plan.Goals as goal

pub loop-claim-init : goal.loop-claim-init
loop-claim-init c = start_planning _ _ _ _ c.new-merge.ensures c.in_ok-book.ensures.value c.is_lawful.ensures

pub returns-in-Err-clause-refused : goal.returns-in-Err-clause-refused
returns-in-Err-clause-refused c =
    planning_stop _ _ _ _ c.loop-claim.invariant c.claim-item.result c.in_ok-copy.copy c.loop-claim-test.true c.claim-item.is
    c.in_ok-copy.ensures.value c.requires.lines c.in-Err.stop c.in-Err.ensures.refused

pub loop-claim-preserved : goal.loop-claim-preserved
loop-claim-preserved c =
    planning_more _ _ _ _ c.loop-claim.invariant c.claim-item.result c.in_ok-copy.copy c.loop-claim-test.true c.claim-item.is
    c.in_ok-copy.ensures.value c.take.new.self c.in_default.ensures.ok

pub returns-clause-ok : goal.returns-clause-ok
returns-clause-ok c =
    planned _ _ _ _ c.loop-claim.invariant c.loop-claim-test.false c.loop-claim.auto.claim-index-end _ _ _ c.new-additions.ensures.facts
    c.new-additions.ensures.lists.0 c.in_ok-settle.ensures.ok

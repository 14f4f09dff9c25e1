use Rattle.std.proofs.Common.{◌≡◌, false, rules}
use Rattle.mds_service.proofs.Opened.{all_dates, date_pushed, dates_more, no_stretch, same_stretches}
use Rattle.mds_service.proofs.opening.stretches.Goals as goal
use Rattle.mds_service.proofs.opening.stretches.Goals.{then-not-goes_on+in_ok-push, else-not-goes_on}

pub loop-day-init : goal.loop-day-init
loop-day-init c = no_stretch _ _ c.new-found.ensures.items

pub loop-day-preserved : goal.loop-day-preserved
loop-day-preserved c =
    let i = c.loop-day.invariant in
    dates_more c.args.days.now c.loop-day.day-index c.day-item.result c.if-not-goes_on.found.items c.loop-day-test.true c.day-item.is
    (elim c.if-not-goes_on.branch [
      | then-not-goes_on+in_ok-push w ↦
          let no : c.goes_on.result ≡ false = search (rules, w.if-not-goes_on.true) in
          same_stretches _ _ _ (search (rules, w.found-is, w.in_ok-push.ensures.items, c.goes_on.ensures.stays no))
          (date_pushed _ c.day-item.result.date c.loop-day.found.items i)
      | else-not-goes_on w ↦
          same_stretches _ _ _ (search (rules, w.found-is)) (c.goes_on.ensures.taken (search (rules, w.if-not-goes_on.false)) _ i)
    ])

pub returns : goal.returns
returns c = all_dates c.args.days.now c.loop-day.day-index c.loop-day.found.items c.loop-day-test.false c.loop-day.invariant

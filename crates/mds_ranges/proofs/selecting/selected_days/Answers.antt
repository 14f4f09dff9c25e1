use Rattle.std.proofs.Common.{subst}
use Rattle.mds_world.specs.Current.{IsCurrentDetails}
use Rattle.mds_ranges.proofs.Selected.{days_selected, in_range, never_unknown, taken_more}
use Rattle.mds_ranges.proofs.selecting.selected_days.Goals as goal

pub loop-book-preserved-in_default : goal.loop-book-preserved-in_default
loop-book-preserved-in_default c = λ w s first last are is rows.
    absurd (never_unknown w s first last c.args.books.now c.loop-book.book-index c.book-item.result c.loop-book-test.true
    c.book-item.is are (rw c.in_default.is at c.in_ok-day.ensures.none))

pub loop-book-preserved : goal.loop-book-preserved
loop-book-preserved c = λ w s first last are is rows.
    let range = in_range w s first last c.args.books.now c.loop-book.book-index c.book-item.result c.loop-book-test.true
    c.book-item.is are in
    taken_more w s first last c.args.books.now c.loop-book.book-index c.book-item.result c.loop-book-test.true c.book-item.is are _
    c.in-Some.day c.loop-book.days.items c.push.new.self.items (rw c.in-Some.is at c.in_ok-day.ensures.date)
    (subst (λ day. IsCurrentDetails w s day c.in_ok-details.details) c.day.ensures
    (c.in_ok-details.ensures w s first last (rw c.day.ensures range.0) (rw c.day.ensures range.1) is rows))
    (λ day current. rw c.in-Some.is at (c.in_ok-day.ensures.some w day current)) c.in_ok-push.ensures.items
    (c.loop-book.invariant w s first last are is rows)

pub returns : goal.returns
returns c = λ w s first last are is rows.
    days_selected w s first last c.loop-book.book-index c.args.books.now c.loop-book.days.items c.loop-book-test.false
    (c.loop-book.invariant w s first last are is rows) are

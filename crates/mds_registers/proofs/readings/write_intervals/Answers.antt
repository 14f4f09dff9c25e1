use Rattle.std.proofs.Common.{◌≡◌, [], arith, append-nil, refl, subst, sym}
use Rattle.mds_calendar.specs.Length.{count_of}
use Rattle.mds_keeper.specs.Books.{book_world}
use Rattle.mds_registers.specs.Readings.{AreIntervalRows}
use Rattle.mds_registers.proofs.ReadingRows.{row_more}
use Rattle.mds_registers.proofs.readings.write_intervals.Goals as goal

pub loop-i-init : goal.loop-i-init
loop-i-init c = λ unit are form. ([], refl, sym (append-nil c.args.rows.now.items))

pub loop-i-preserved : goal.loop-i-preserved
loop-i-preserved c = λ unit are form.
    let book = c.args.book.now in
    let before = c.loop-i.invariant unit are form in
    row_more (book_world book) book.stream book.day c.args.day.now unit c.loop-i.i c.args.rows.now.items c.loop-i.rows.items
    c.write_interval.new.rows.items before.0 are before.1 before.2 (c.in_ok-write_interval.ensures unit form)

pub returns : goal.returns
returns c = λ unit are form.
    let book = c.args.book.now in
    let day = c.args.day.now in
    let all = c.loop-i.invariant unit are form in
    let over = c.loop-i-test.false in
    let end = c.loop-i.auto.i-end in
    let count = c.count-i-end.ensures.value in
    let whole : c.loop-i.i ≡ count_of day.length = omega (arith, over, end, count) in
    (all.0, subst (λ n. AreIntervalRows (book_world book) book.stream book.day day.date day.length unit n all.0) whole all.1, all.2)

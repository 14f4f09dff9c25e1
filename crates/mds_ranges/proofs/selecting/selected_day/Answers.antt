use Rattle.mds_world.proofs.Forms.{form_known}
use Rattle.mds_keeper.specs.Books.{book_world}
use Rattle.mds_ranges.proofs.DayFacts.{selected_of}
use Rattle.mds_ranges.proofs.selecting.selected_day.Goals as goal

pub unreachable-requires : goal.unreachable-requires
unreachable-requires c =
    let book = c.args.book.now in
    c.in_default-latest_update.ensures.none
    (form_known (book_world book) book.stream book.day c.in-Some.form.0 c.in-Some.form.1 c.in-Some.ensures.some)

pub returns-clause-some : goal.returns-clause-some
returns-clause-some c = λ w is details.
    selected_of w c.args.book.now _ is c.day.ensures c.in-Some.ensures.some details
    c.in-Some-latest_update.ensures.some (c.in_ok-readings.ensures w is)

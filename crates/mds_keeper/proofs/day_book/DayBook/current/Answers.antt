use Rattle.std.proofs.Common.{sym}
use Rattle.mds_keeper.proofs.BookReads.{IsCurrentOf, shown_none, shown_reading, shown_some}
use Rattle.mds_keeper.proofs.WholeDays.{current_of_whole}
use Rattle.mds_keeper.proofs.day_book.DayBook.current.Goals as goal
use Rattle.mds_keeper.proofs.day_book.DayBook.current.Goals.{After-last_of, After-lent_at}

of_rows : (c : After-last_of) → IsCurrentOf c.args.self.now c.in_ok-length.length c.args.interval c.last_of.result
of_rows c = record {
  some = c.last_of.ensures.some c.args.self.now (sym c.in-Each.ensures.value);
  none = c.last_of.ensures.none c.args.self.now (sym c.in-Each.ensures.value);
}

of_whole : (c : After-lent_at) → IsCurrentOf c.args.self.now c.in_ok-length.length c.args.interval c.lent_at.result
of_whole c =
    current_of_whole c.args.self.now _ _ _ (sym c.in-Whole.ensures.value) c.in_ok-length.length c.in_ok-length.field-0-1 c.in_ok-length.ensures.some
    c.args.interval _ (c.lent_at.ensures c.args.self.now (sym c.in-Whole.ensures.value))

pub returns-in-Each-clause-some : goal.returns-in-Each-clause-some
returns-in-Each-clause-some c = shown_some c.args.self.now c.is_lawful.ensures c.in_ok-length.length c.in_ok-length.field-0-1 c.in_ok-length.ensures.some c.args.interval _ (of_rows c)

pub returns-in-Each-clause-none : goal.returns-in-Each-clause-none
returns-in-Each-clause-none c = shown_none c.args.self.now c.is_lawful.ensures c.in_ok-length.length c.in_ok-length.field-0-1 c.in_ok-length.ensures.some c.args.interval _ (of_rows c)

pub returns-in-Each-clause-reading : goal.returns-in-Each-clause-reading
returns-in-Each-clause-reading c = shown_reading c.args.self.now c.is_lawful.ensures c.in_ok-length.length c.in_ok-length.field-0-1 c.in_ok-length.ensures.some c.args.interval _ (of_rows c)

pub returns-in-Whole-clause-some : goal.returns-in-Whole-clause-some
returns-in-Whole-clause-some c = shown_some c.args.self.now c.is_lawful.ensures c.in_ok-length.length c.in_ok-length.field-0-1 c.in_ok-length.ensures.some c.args.interval _ (of_whole c)

pub returns-in-Whole-clause-none : goal.returns-in-Whole-clause-none
returns-in-Whole-clause-none c = shown_none c.args.self.now c.is_lawful.ensures c.in_ok-length.length c.in_ok-length.field-0-1 c.in_ok-length.ensures.some c.args.interval _ (of_whole c)

pub returns-in-Whole-clause-reading : goal.returns-in-Whole-clause-reading
returns-in-Whole-clause-reading c = shown_reading c.args.self.now c.is_lawful.ensures c.in_ok-length.length c.in_ok-length.field-0-1 c.in_ok-length.ensures.some c.args.interval _ (of_whole c)

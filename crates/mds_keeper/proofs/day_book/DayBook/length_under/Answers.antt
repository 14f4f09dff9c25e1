use Rattle.std.proofs.Common.{rules, subst, sym}
use Rattle.mds_keeper.specs.BookRows.{IsLengthIn}
use Rattle.mds_keeper.proofs.WholeDays.{none_under, one_under}
use Rattle.mds_keeper.proofs.day_book.DayBook.length_under.Goals as goal

pub returns-in-Each : goal.returns-in-Each
returns-in-Each c =
    subst (λ rows. IsLengthIn rows c.args.update c.length_in.result) c.in-Each.ensures.value c.length_in.ensures

pub returns-then-eq : goal.returns-then-eq
returns-then-eq c =
    one_under c.args.self.now _ _ _ (sym c.in-Whole.ensures.value) c.in-Whole.ensures.whole.1 c.args.update
    (search (rules, c.if-eq.true, c.eq.ensures))

pub returns-else-eq : goal.returns-else-eq
returns-else-eq c =
    none_under c.args.self.now _ _ _ (sym c.in-Whole.ensures.value) c.args.update (search (rules, c.if-eq.false, c.eq.ensures))

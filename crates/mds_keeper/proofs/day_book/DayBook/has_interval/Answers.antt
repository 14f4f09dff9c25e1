use Rattle.std.proofs.Common.{subst, sym}
use Rattle.std.specs.Prelude.{◌↔◌, IsTrue}
use Rattle.mds_keeper.specs.BookRows.{HasIntervalOf}
use Rattle.mds_keeper.proofs.BookReads.{head_has}
use Rattle.mds_keeper.proofs.WholeDays.{whole_has}
use Rattle.mds_keeper.proofs.day_book.DayBook.has_interval.Goals as goal

pub returns-in-Each : goal.returns-in-Each
returns-in-Each c =
    let heads = head_has c.args.self.now c.is_lawful.ensures c.args.interval in
    let rows = subst (λ rows. IsTrue c.is_of_some.result ↔ HasIntervalOf rows c.args.interval) c.in-Each.ensures.value c.is_of_some.ensures in
    ((λ is. heads.0 (rows.0 is)), (λ has. rows.1 (heads.1 has)))

pub returns-in-Whole : goal.returns-in-Whole
returns-in-Whole c =
    let heads = head_has c.args.self.now c.is_lawful.ensures c.args.interval in
    let rows = whole_has c.args.self.now _ _ _ (sym c.in-Whole.ensures.value) c.in-Whole.ensures.whole.1 c.args.interval in
    ((λ is. heads.0 (rows.0 (c.is_of.ensures.0 is))), (λ has. c.is_of.ensures.1 (rows.1 (heads.1 has))))

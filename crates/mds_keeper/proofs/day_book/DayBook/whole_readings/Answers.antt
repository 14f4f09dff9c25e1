use Rattle.std.proofs.Common.{sym}
use Rattle.mds_keeper.proofs.WholeDays.{shown_whole}
use Rattle.mds_keeper.proofs.day_book.DayBook.whole_readings.Goals as goal

pub returns-in-Whole : goal.returns-in-Whole
returns-in-Whole c = shown_whole c.args.self.now _ _ _ (sym c.in-Whole.ensures.value) _ _ c.in_ok-form.ensures.some

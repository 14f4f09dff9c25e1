use Rattle.std.proofs.Common.{subst}
use Rattle.mds_keeper.specs.BookRows.{IsBook}
use Rattle.mds_keeper.proofs.day_book.DayBook.is_lawful.Goals as goal

pub returns : goal.returns
returns c = (subst IsBook c.self.view_is c.self.invariant.0).lawful

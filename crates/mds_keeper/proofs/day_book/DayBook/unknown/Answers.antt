use Rattle.mds_keeper.proofs.Unknown.{bare_is}
use Rattle.mds_keeper.proofs.day_book.DayBook.unknown.Goals as goal

pub unreachable-requires : goal.unreachable-requires
unreachable-requires c = bare_is _ _ _ c.new.ensures.items c.in_default.ensures.none

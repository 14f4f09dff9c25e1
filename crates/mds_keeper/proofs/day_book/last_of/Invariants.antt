use Rattle.std.proofs.Common.{◌≤◌, length}
use Rattle.mds_keeper.proofs.BookReads.{AreOther}
use Rattle.mds_keeper.proofs.day_book.last_of.Given as goal

abbrev pub invariant-loop-end : goal.invariant-loop-end
invariant-loop-end l = record { within : l.end ≤ length l.found; other : AreOther l.length l.found l.end }

abbrev pub decreases-loop-end : goal.decreases-loop-end
decreases-loop-end l = l.end

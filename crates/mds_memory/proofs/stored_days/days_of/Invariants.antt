use Rattle.mds_memory.proofs.DaysBetween.{IsAny, between, known_at}
use Rattle.mds_memory.proofs.Runs.{IsRun}
use Rattle.mds_memory.proofs.stored_days.days_of.Given as goal

abbrev pub invariant-loop-book : goal.invariant-loop-book
invariant-loop-book l = IsRun known_at IsAny (between l.fn.days l.fn.stream l.fn.first l.fn.last) l.books.items l.book-iterator

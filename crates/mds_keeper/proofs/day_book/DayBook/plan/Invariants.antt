use Rattle.mds_keeper.proofs.Planned.{IsPlanning}
use Rattle.mds_keeper.proofs.day_book.DayBook.plan.Given as goal

abbrev pub invariant-loop-claim : goal.invariant-loop-claim
invariant-loop-claim l = IsPlanning l.self l.claims l.claim-index l.merge

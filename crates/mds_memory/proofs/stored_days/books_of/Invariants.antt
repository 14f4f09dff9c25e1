use Rattle.mds_memory.proofs.Changed.{AreMaking}
use Rattle.mds_memory.proofs.stored_days.books_of.Given as goal

abbrev pub invariant-loop-place : goal.invariant-loop-place
invariant-loop-place l = AreMaking l.fn.closed l.place-iterator l.books

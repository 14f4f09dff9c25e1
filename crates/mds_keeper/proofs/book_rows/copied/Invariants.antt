use Rattle.std.proofs.Common.{◌≡◌, take}
use Rattle.mds_keeper.proofs.book_rows.copied.Given as goal

abbrev pub invariant-loop-interval : goal.invariant-loop-interval
invariant-loop-interval l = l.copy.items ≡ take l.interval-index l.rows

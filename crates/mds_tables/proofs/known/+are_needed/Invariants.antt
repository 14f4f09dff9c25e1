use Rattle.std.proofs.Common.{length}
use Rattle.mds_tables.proofs.known.+are_needed.Given as goal

abbrev pub decreases-are_needed : goal.decreases-are_needed
decreases-are_needed l = length l.columns.now

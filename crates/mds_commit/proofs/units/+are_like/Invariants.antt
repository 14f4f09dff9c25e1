use Rattle.std.proofs.Common.{length}
use Rattle.mds_commit.proofs.units.+are_like.Given as goal

abbrev pub decreases-are_like : goal.decreases-are_like
decreases-are_like l = length l.heads.now

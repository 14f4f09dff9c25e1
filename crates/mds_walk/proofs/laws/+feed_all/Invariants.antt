use Rattle.std.proofs.Common.{length}
use Rattle.mds_walk.proofs.laws.+feed_all.Given as goal

abbrev pub decreases-feed_all : goal.decreases-feed_all
decreases-feed_all g l = length l.pieces.now

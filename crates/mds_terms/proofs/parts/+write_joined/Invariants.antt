use Rattle.std.proofs.Common.{length}
use Rattle.mds_terms.proofs.parts.+write_joined.Given as goal

abbrev pub decreases-write_joined : goal.decreases-write_joined
decreases-write_joined l = length l.texts.now

use Rattle.std.proofs.Common.{length}
use Rattle.mds_pack_rows.proofs.bodies.+has_some.Given as goal

abbrev pub decreases-has_some : goal.decreases-has_some
decreases-has_some l = length l.readings.now

use Rattle.std.proofs.Common.{length}
use Rattle.mds_export.proofs.line.+write_line.Given as goal

abbrev pub decreases-write_line : goal.decreases-write_line
decreases-write_line l = length l.texts.now

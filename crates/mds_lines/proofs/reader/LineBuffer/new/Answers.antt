use Rattle.std.proofs.Common.{refl}
use Rattle.mds_lines.proofs.reader.LineBuffer.new.Goals as goal

pub returns : goal.returns
returns c = refl

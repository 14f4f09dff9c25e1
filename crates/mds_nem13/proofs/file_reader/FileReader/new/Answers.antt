use Rattle.std.proofs.Common.{refl}
use Rattle.mds_nem13.proofs.Kept.{taken_none}
use Rattle.mds_nem13.proofs.file_reader.FileReader.new.Goals as goal

pub returns : goal.returns
returns g c = taken_none _ _ refl c.requires

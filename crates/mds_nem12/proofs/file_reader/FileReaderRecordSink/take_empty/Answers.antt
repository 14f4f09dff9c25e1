use Rattle.std.proofs.Common.{refl}
use Rattle.mds_nem12.proofs.Kept.{kept_empty}
use Rattle.mds_nem12.proofs.file_reader.FileReaderRecordSink.take_empty.Goals as goal

pub returns : goal.returns
returns g c = λ before h. kept_empty _ before _ c.args.self.now refl h

use Rattle.mds_names.proofs.Texts.{stream_splits}
use Rattle.mds_names.proofs.name.names_read_back.Goals as goal

pub returns-clause-stream : goal.returns-clause-stream
returns-clause-stream c = λ nmi suffix h k. stream_splits nmi suffix h k

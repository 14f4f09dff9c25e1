use Rattle.mds_export.proofs.RowLines.{read_back}
use Rattle.mds_export.proofs.row_laws.rows_read_back.Goals as goal

pub returns : goal.returns
returns c = read_back

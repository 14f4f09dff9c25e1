use Rattle.mds_export.proofs.LawfulRows.{form_shown}
use Rattle.mds_export.proofs.laws.export_reads_back.Goals as goal

pub returns : goal.returns
returns c = form_shown

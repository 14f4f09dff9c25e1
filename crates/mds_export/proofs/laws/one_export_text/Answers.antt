use Rattle.mds_export.proofs.OneText.{one_text}
use Rattle.mds_export.proofs.laws.one_export_text.Goals as goal

pub returns : goal.returns
returns c = one_text

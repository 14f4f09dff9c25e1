use Rattle.std.proofs.Common.{◌∙◌}
use Rattle.mds_records.proofs.Terms.{text_alone}
use Rattle.mds_records.proofs.term.is_text.Goals as goal

pub returns : goal.returns
returns c = c.is_some.ensures ∙ text_alone c.args.text.now c.read.result c.read.ensures.value

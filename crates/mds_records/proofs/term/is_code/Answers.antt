use Rattle.std.proofs.Common.{◌∙◌}
use Rattle.mds_records.proofs.Terms.{code_alone}
use Rattle.mds_records.proofs.term.is_code.Goals as goal

pub returns : goal.returns
returns c = c.is_some.ensures ∙ code_alone c.args.code.now c.read.result c.read.ensures.value

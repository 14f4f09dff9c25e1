use Rattle.std.proofs.Common.{sym, subst}
use Rattle.mds_answers.specs.JsonSteps.{IsPlain}
use Rattle.mds_answers.proofs.Codes.{code_plain}
use Rattle.mds_answers.proofs.short.fault_line.Goals as goal

pub refused_line-requires : goal.refused_line-requires
refused_line-requires c = subst IsPlain (sym c.text.ensures) (code_plain c.args.fault.now.code)

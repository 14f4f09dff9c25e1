use Rattle.std.proofs.Common.{sym, subst}
use Rattle.mds_answers.specs.JsonSteps.{IsPlain}
use Rattle.mds_answers.proofs.Codes.{rule_plain}
use Rattle.mds_answers.proofs.short.refusal_line.Goals as goal

pub refused_line-requires : goal.refused_line-requires
refused_line-requires c = subst IsPlain (sym c.text.ensures) (rule_plain c.args.refusal.now.code)

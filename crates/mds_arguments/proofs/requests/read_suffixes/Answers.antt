use Rattle.std.proofs.Common.{sym, ◌∙◌}
use Rattle.mds_arguments.proofs.Suffixes.{one_is_none, all_are_read}
use Rattle.mds_arguments.proofs.requests.read_suffixes.Goals as goal

pub returns-in_default-clause-value : goal.returns-in_default-clause-value
returns-in_default-clause-value c = one_is_none c.args.texts.now c.loop-text.text-index _ c.loop-text-test.true (sym c.read.ensures ∙ c.in_default.is)

pub returns-clause-value : goal.returns-clause-value
returns-clause-value c = all_are_read c.args.texts.now c.loop-text.text-index c.loop-text.suffixes.items c.loop-text-test.false c.loop-text.invariant

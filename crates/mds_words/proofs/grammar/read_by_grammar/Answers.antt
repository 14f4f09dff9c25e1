use Rattle.std.proofs.Common.{map, refl, string_bytes}
use Rattle.mds_words.specs.Grammar.{mdstore_app}
use Rattle.mds_words.proofs.Getters.{refused_by}
use Rattle.mds_words.proofs.grammar.read_by_grammar.Goals as goal

pub returns-in-Ok-clause-asked : goal.returns-in-Ok-clause-asked
returns-in-Ok-clause-asked c = (mdstore_app c.kinds.result, (c.kinds.result, c.kinds.ensures, refl), c.in-Ok.ensures.asked)

pub returns-in-Err-clause-passes : goal.returns-in-Err-clause-passes
returns-in-Err-clause-passes c = (
  mdstore_app c.kinds.result,
  (c.kinds.result, c.kinds.ensures, refl),
  refused_by (mdstore_app c.kinds.result) (map string_bytes c.args.words.now) c.in-Err.error _ c.in-Err.ensures.kinds
      (λ taken. c.words_fault.ensures.memory (c.in-Err.ensures.passes taken)) c.words_fault.ensures.memory c.words_fault.ensures.kind,
)

use Rattle.std.proofs.Common.{string_bytes, sym}
use Rattle.std.proofs.lemmas.Result.{IfErr-weaker, IfOk-weaker}
use Rattle.mds_words.proofs.Getters.{by_grammar, refused}
use Rattle.mds_words.proofs.words.read_words.Goals as goal

pub returns-clause-asked : goal.returns-clause-asked
returns-clause-asked c =
    IfOk-weaker c.read_by_grammar.result _ _ (λ asked by. by_grammar string_bytes c.args.words.now asked (sym c.if-is_empty.ensures) by) c.read_by_grammar.ensures.asked

pub returns-clause-passes : goal.returns-clause-passes
returns-clause-passes c =
    IfErr-weaker c.read_by_grammar.result _ _ (λ fault by. refused string_bytes c.args.words.now fault (sym c.if-is_empty.ensures) by) c.read_by_grammar.ensures.passes

use Rattle.std.proofs.Common.{◌∙◌, codes}
use Rattle.std.specs.Str.Parse.{ExplainsUnsignedError, HasUnsignedDigitsIfOk, ParsesUnsigned}
use Rattle.clap.specs.Words.{found_of}
use Rattle.clap.proofs.WalkLemmas.{one_text-rows}
use Rattle.mds_words.proofs.Getters.{number_read}
use Rattle.mds_words.proofs.grammar.port.Goals as goal

pub returns : goal.returns
returns c =
    let same = one_text-rows (found_of c.args.found.now) (codes "port") in
    c.unwrap_or.ensures
    ∙ number_read _ (λ text r. ParsesUnsigned 16 10 text r × ExplainsUnsignedError 10 text r × HasUnsignedDigitsIfOk text r) 16 _ c.get_one.result (λ text r g. g.0)
    (λ e. c.get_one.ensures.none (same ∙ e)) (λ text e. c.get_one.ensures.value text (same ∙ e))

use Rattle.std.proofs.Common.{◌∙◌, [], ap}
use Rattle.std.proofs.lemmas.Result.{IfOk-weaker}
use Rattle.std.specs.Option.{unwrap_or}
use Rattle.clap.specs.Walk.{texts}
use Rattle.clap.specs.Words.{found_of}
use Rattle.clap.proofs.WalkLemmas.{raw_values-rows}
use Rattle.mds_words.proofs.Getters.{copied}
use Rattle.mds_words.proofs.grammar.all_words.Goals as goal

pub returns-in-Some : goal.returns-in-Some
returns-in-Some c = IfOk-weaker c.to_vec.result _ _ (λ words same. copied _ words.items _ same (c.in-Some.ensures ∙ raw_values-rows (found_of c.args.found.now) c.args.id.now)) c.to_vec.ensures.ok

pub returns-in-None : goal.returns-in-None
returns-in-None c = ap texts c.new.ensures.items ∙ ap (λ o. unwrap_or o []) (c.in-None.ensures ∙ raw_values-rows (found_of c.args.found.now) c.args.id.now)

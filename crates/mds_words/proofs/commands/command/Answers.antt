use Rattle.std.proofs.Common.{[], map, rules}
use Rattle.std.proofs.lemmas.Result.{IfOk-weaker}
use Rattle.mds_words.specs.Commands.{IsApp}
use Rattle.mds_words.specs.Grammar.{name_text, rule_of_word, words_of}
use Rattle.mds_words.proofs.Building.{leaf, of_arguments}
use Rattle.mds_words.proofs.commands.command.Goals as goal

pub returns : goal.returns
returns c =
    let name = name_text c.args.name in
    let bare : IsApp (leaf name []) c.about.result = search rules in
    IfOk-weaker c.args-2.result _ _ (λ new adds. of_arguments name (map (rule_of_word c.args.kinds.names) (words_of c.args.name)) c.in_ok-arguments.arguments.items c.about.result new
    bare (rw c.words.ensures at c.in_ok-arguments.ensures) adds) c.args-2.ensures

use Rattle.mds_words.specs.Commands.{HasRule}
use Rattle.mds_words.specs.Grammar.{rule_of_word}
use Rattle.mds_words.proofs.Building.{one_more_of}
use Rattle.mds_words.proofs.commands.arguments.Goals as goal

pub loop-word-preserved : goal.loop-word-preserved
loop-word-preserved c = rw c.in_ok-push.ensures.items
    (one_more_of HasRule (rule_of_word c.args.kinds.names) c.args.words.now c.loop-word.word-index _ _ _ c.loop-word-test.true c.loop-word.invariant c.argument.ensures)

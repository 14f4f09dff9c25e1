use Rattle.std.proofs.Common.{map, take}
use Rattle.std.specs.List.{AllZip}
use Rattle.mds_words.specs.Commands.{HasRule}
use Rattle.mds_words.specs.Grammar.{rule_of_word}
use Rattle.mds_words.proofs.commands.arguments.Given as goal

-- the arguments so far have the rules of the words so far
abbrev pub invariant-loop-word : goal.invariant-loop-word
invariant-loop-word l = AllZip HasRule (map (rule_of_word l.kinds.names) (take l.word-index l.words)) l.arguments.items

use Rattle.std.proofs.Common.{map, take}
use Rattle.std.specs.List.{AllZip}
use Rattle.mds_words.specs.Commands.{IsLeaf}
use Rattle.mds_words.specs.Grammar.{all_names, shape_of}
use Rattle.mds_words.proofs.commands.commands.Given as goal

-- the commands so far are those of the names so far
abbrev pub invariant-loop-name : goal.invariant-loop-name
invariant-loop-name l = AllZip IsLeaf (map (shape_of l.kinds.names) (take l.name-index all_names)) l.commands.items

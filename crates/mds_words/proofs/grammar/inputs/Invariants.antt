use Rattle.std.proofs.Common.{◌≡◌, map, take}
use Rattle.clap.specs.Walk.{texts}
use Rattle.mds_words.specs.Asked.{input_of, input_value}
use Rattle.mds_words.proofs.grammar.inputs.Given as goal

abbrev pub invariant-loop-name : goal.invariant-loop-name
invariant-loop-name l = map input_value l.inputs.items ≡ map input_of (texts (take l.name-index l.name-items))

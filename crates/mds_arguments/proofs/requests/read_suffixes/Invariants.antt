use Rattle.std.proofs.Common.{◌≡◌, take, map, Some}
use Rattle.mds_names.specs.Names.{suffix_of}
use Rattle.mds_arguments.proofs.requests.read_suffixes.Given as goal

-- the suffixes so far are those of the texts so far
abbrev pub invariant-loop-text : goal.invariant-loop-text
invariant-loop-text l =
    map (λ text. suffix_of text.now) (take l.text-index l.texts) ≡ map (λ suffix. Some suffix) l.suffixes.items

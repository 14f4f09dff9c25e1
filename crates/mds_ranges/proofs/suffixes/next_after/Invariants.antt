use Rattle.std.proofs.Common.{take}
use Rattle.mds_ranges.specs.SuffixesSteps.{IsNext}
use Rattle.mds_ranges.proofs.suffixes.next_after.Given as goal

abbrev pub invariant-loop-suffix : goal.invariant-loop-suffix
invariant-loop-suffix l = IsNext l.last (take l.suffix-index l.suffixes) l.next

use Rattle.std.proofs.Common.{◌≡◌, ◌+◌, drop}
use Rattle.mds_records.specs.RecordSteps.{first_false}
use Rattle.mds_records.proofs.fault.least_bad.Given as goal

-- none has failed so far
abbrev pub invariant-loop-i : goal.invariant-loop-i
invariant-loop-i l = first_false l.from l.good ≡ first_false (l.from + l.i) (drop l.i l.good)

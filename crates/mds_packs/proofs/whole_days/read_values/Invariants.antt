use Rattle.std.proofs.Common.{replicate, Some}
use Rattle.mds_packs.specs.Unpacked.{readings_at}
use Rattle.mds_packs.proofs.HeldReads.{AreUnder}
use Rattle.mds_packs.proofs.whole_days.read_values.Given as goal

abbrev pub invariant-loop : goal.invariant-loop
invariant-loop l = AreUnder l.mark l.number l.counter l.values.items l.rest (readings_at (replicate l.number (Some l.mark)) l.bytes)

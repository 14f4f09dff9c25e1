use Rattle.std.proofs.Common.{◌≡◌, None, replicate}
use Rattle.mds_pack_rows.proofs.grouping.no_readings.Given as goal

abbrev pub invariant-loop : goal.invariant-loop
invariant-loop l = l.readings.items ≡ replicate l.counter None

use Rattle.std.proofs.Common.{◌≡◌, length, take}
use Rattle.mds_pack_rows.specs.Batches.{SayDays, SaySome}
use Rattle.mds_pack_rows.proofs.batches.pack_new_days.Given as goal

abbrev pub invariant-loop-added : goal.invariant-loop-added
invariant-loop-added l = record {
  len : length l.rows.items ≡ l.added-index;
  says : SayDays l.rows.items (take l.added-index l.days);
  some : SaySome l.rows.items;
}

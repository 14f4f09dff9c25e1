use Rattle.std.proofs.Common.{◌≡◌, ◌<◌, ◌^◌, length, take}
use Rattle.mds_pack_rows.specs.PackFacts.{minutes_of}
use Rattle.mds_pack_rows.specs.Putting.{SayRows}
use Rattle.mds_pack_rows.proofs.grouping.readings_by_interval.Given as goal

abbrev pub invariant-loop-row : goal.invariant-loop-row
invariant-loop-row l = record {
  few : length l.readings.items < 2 ^ 16;
  says : SayRows l.update l.readings.items (take l.row-index l.rows);
  of_length : minutes_of (length l.readings.items) ≡ l.length;
}

use Rattle.std.proofs.Common.{◌≡◌, length}
use Rattle.mds_world.specs.World.{World}
use Rattle.mds_keeper.specs.Books.{IsDay}
use Rattle.mds_ranges.specs.Readings.{AreReadings}
use Rattle.mds_ranges.proofs.readings.current_readings.Given as goal

abbrev pub invariant-loop-i : goal.invariant-loop-i
invariant-loop-i l = record {
  size : length l.readings ≡ l.i;
  readings : (w : World) → IsDay w l.book → AreReadings w l.book.stream l.book.day l.i l.readings;
}

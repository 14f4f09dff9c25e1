use Rattle.std.proofs.Common.{take}
use Rattle.mds_world.specs.World.{World}
use Rattle.mds_registers.specs.FieldsSteps.{Begins}
use Rattle.mds_registers.specs.Readings.{AreKnownDays}
use Rattle.mds_registers.proofs.ReadingRows.{HasDays}
use Rattle.mds_registers.proofs.readings.write_days.Given as goal

abbrev pub invariant-loop-book : goal.invariant-loop-book
invariant-loop-book l = record {
  begun : Begins l.fn.out.items l.out.items;
  days : (w : World) → AreKnownDays w l.stream l.books → HasDays w l.stream (take l.book-index l.books) l.fn.out.items l.out.items;
}

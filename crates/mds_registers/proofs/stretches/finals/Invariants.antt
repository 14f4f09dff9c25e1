use Rattle.mds_world.specs.World.{World}
use Rattle.mds_keeper.specs.Books.{IsDay}
use Rattle.mds_registers.proofs.Found.{AreFinalsTo}
use Rattle.mds_registers.proofs.stretches.finals.Given as goal

abbrev pub invariant-loop-i : goal.invariant-loop-i
invariant-loop-i l = (w : World) → IsDay w l.book → AreFinalsTo w l.book l.i l.finals.items

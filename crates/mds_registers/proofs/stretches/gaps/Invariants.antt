use Rattle.mds_world.specs.World.{World}
use Rattle.mds_keeper.specs.Books.{IsDay}
use Rattle.mds_registers.proofs.Found.{AreGapsTo}
use Rattle.mds_registers.proofs.stretches.gaps.Given as goal

abbrev pub invariant-loop-i : goal.invariant-loop-i
invariant-loop-i l = (w : World) → IsDay w l.book → AreGapsTo w l.book l.i l.gaps.items

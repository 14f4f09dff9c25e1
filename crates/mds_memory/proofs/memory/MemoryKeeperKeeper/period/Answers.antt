use Rattle.mds_memory.proofs.Kept.{periods_of_all}
use Rattle.mds_memory.proofs.Told.{told}
use Rattle.mds_memory.proofs.memory.MemoryKeeperKeeper.period.Goals as goal

pub returns : goal.returns
returns c = let k = c.self.inside in told c.self.view_is (periods_of_all k.days k.details k.notes k.jobs k.periods _ _ c.in_ok-periods_of.ensures)

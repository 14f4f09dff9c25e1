use Rattle.mds_memory.proofs.Kept.{last_of_all}
use Rattle.mds_memory.proofs.Told.{told}
use Rattle.mds_memory.proofs.memory.MemoryKeeperKeeper.last_day.Goals as goal

pub returns : goal.returns
returns c = let k = c.self.inside in told c.self.view_is (last_of_all k.days k.details k.notes k.jobs k.periods _ _ c.last_day.ensures)

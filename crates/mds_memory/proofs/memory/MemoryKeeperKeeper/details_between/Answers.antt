use Rattle.mds_memory.proofs.Kept.{between_of_all}
use Rattle.mds_memory.proofs.Told.{told}
use Rattle.mds_memory.proofs.memory.MemoryKeeperKeeper.details_between.Goals as goal

pub returns : goal.returns
returns c = let k = c.self.inside in told c.self.view_is (between_of_all k.days k.details k.notes k.jobs k.periods _ _ _ _ c.in_ok-details_between.ensures)

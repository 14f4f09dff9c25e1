use Rattle.mds_memory.proofs.Kept.{without_of_all}
use Rattle.mds_memory.proofs.Told.{told}
use Rattle.mds_memory.proofs.memory.MemoryKeeperKeeper.days_without.Goals as goal

pub returns : goal.returns
returns c = let k = c.self.inside in told c.self.view_is (without_of_all k.days k.details k.notes k.jobs k.periods c.args.details.now _ c.in_ok-days_without.ensures)

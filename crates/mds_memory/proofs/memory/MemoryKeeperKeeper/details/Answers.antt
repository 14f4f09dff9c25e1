use Rattle.mds_memory.proofs.Kept.{details_of_all}
use Rattle.mds_memory.proofs.Told.{told}
use Rattle.mds_memory.proofs.memory.MemoryKeeperKeeper.details.Goals as goal

pub returns : goal.returns
returns c = let k = c.self.inside in told c.self.view_is (details_of_all k.days k.details k.notes k.jobs k.periods _ c.args.day _ c.in_ok-current_details.ensures)

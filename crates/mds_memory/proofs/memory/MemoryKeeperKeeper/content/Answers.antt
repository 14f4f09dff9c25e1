use Rattle.mds_memory.proofs.Kept.{content_of_all}
use Rattle.mds_memory.proofs.Told.{told}
use Rattle.mds_memory.proofs.memory.MemoryKeeperKeeper.content.Goals as goal

pub returns : goal.returns
returns c = let k = c.self.inside in told c.self.view_is (content_of_all k.days k.details k.notes k.jobs k.periods c.args.key.now _ c.in_ok-content_of.ensures)

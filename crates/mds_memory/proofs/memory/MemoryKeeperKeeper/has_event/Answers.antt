use Rattle.mds_memory.proofs.Kept.{both_same, event_same}
use Rattle.mds_memory.proofs.Told.{told}
use Rattle.mds_memory.proofs.memory.MemoryKeeperKeeper.has_event.Goals as goal

pub returns : goal.returns
returns c = let k = c.self.inside in told c.self.view_is (both_same _ _ _ (event_same k.days k.details k.notes k.jobs k.periods _) c.in_ok-has_event.ensures)

use Rattle.mds_memory.proofs.Kept.{day_of_all}
use Rattle.mds_memory.proofs.Told.{told}
use Rattle.mds_memory.proofs.memory.MemoryKeeperKeeper.day.Goals as goal

pub returns-clause-book : goal.returns-clause-book
returns-clause-book c = let k = c.self.inside in told c.self.view_is (day_of_all k.days k.details k.notes k.jobs k.periods _ c.in_ok-day_of.ensures.book)

use Rattle.mds_memory.proofs.Streams.{known_streams}
use Rattle.mds_memory.proofs.Told.{told}
use Rattle.mds_memory.proofs.memory.MemoryKeeperKeeper.streams.Goals as goal

pub returns : goal.returns
returns c =
    let k = c.self.inside in
    told c.self.view_is (known_streams k.days k.details k.notes k.jobs k.periods c.in_ok-of_days.of_days.items
    c.in_ok-of_periods.of_periods.items _ c.in_ok-of_days.ensures c.in_ok-of_periods.ensures
    (rw (c.deref.ensures.value, c.deref-2.ensures.value) at c.in_ok-streams.ensures.each) c.in_ok-streams.ensures.ascending)

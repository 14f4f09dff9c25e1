use Rattle.mds_keeper.proofs.ClaimedEntries.{inserted}
use Rattle.mds_keeper.proofs.claimed.ClaimedUpdates.insert.Goals as goal

pub returns-clause-done : goal.returns-clause-done
returns-clause-done c = inserted _ _ _ c.self.view_is _ _ c.seconds.ensures.order _ c.requires _ c.in_ok-insert.ensures.entries

use Rattle.mds_pack_rows.specs.Current.{current_layout}
use Rattle.mds_store.proofs.Keeping.{asked}
use Rattle.mds_store.proofs.CurrentKeeping.{as_store, current_on}
use Rattle.mds_store.proofs.pack_keeper.PackKeeperKeeper.has_event.Goals as goal

pub invariant_of-self : goal.invariant_of-self
invariant_of-self g c = record { autocommit = (c.has_event.ensures current_layout).mode; holds = current_on c.args.self.now.holds (c.has_event.ensures current_layout) }

pub returns : goal.returns
returns g c = asked current_layout _ (as_store c.args.self.now.holds) (c.has_event.ensures current_layout)

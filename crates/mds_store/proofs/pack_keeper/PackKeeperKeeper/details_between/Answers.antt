use Rattle.mds_pack_rows.specs.Current.{current_layout}
use Rattle.mds_store.proofs.Keeping.{asked}
use Rattle.mds_store.proofs.CurrentKeeping.{as_store, current_on}
use Rattle.mds_store.proofs.pack_keeper.PackKeeperKeeper.details_between.Goals as goal

pub invariant_of-self : goal.invariant_of-self
invariant_of-self g c = record { autocommit = c.details_between.ensures.mode; holds = current_on c.args.self.now.holds c.details_between.ensures }

pub returns : goal.returns
returns g c = asked current_layout _ (as_store c.args.self.now.holds) c.details_between.ensures

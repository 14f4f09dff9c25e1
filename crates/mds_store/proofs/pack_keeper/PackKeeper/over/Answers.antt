use Rattle.sqlite.specs.Held.{state}
use Rattle.mds_store.proofs.CurrentKeeping.{of_open}
use Rattle.mds_store.proofs.pack_keeper.PackKeeper.over.Goals as goal

pub invariant_of-result : goal.invariant_of-result
invariant_of-result g c = record {
  autocommit = c.requires.autocommit;
  holds = of_open (state g.S.Store c.args.conn) c.schema.ensures.live (λ o trees may. g.met.S.Store.settled c.args.conn.store trees o may) c.requires.holds;
}

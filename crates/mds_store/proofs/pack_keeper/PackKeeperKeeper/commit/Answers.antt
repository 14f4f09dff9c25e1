use Rattle.std.proofs.Common.{refl}
use Rattle.mds_pack_rows.specs.Current.{current_layout}
use Rattle.mds_commit.specs.FormPutting.{GainsForms}
use Rattle.mds_store.proofs.Keeping.{added}
use Rattle.mds_store.proofs.CurrentKeeping.{as_store, current_with}
use Rattle.mds_store.proofs.pack_keeper.PackKeeperKeeper.commit.Goals as goal

pub invariant_of-self : goal.invariant_of-self
invariant_of-self g c =
    let did = c.commit.ensures in
    let store = as_store c.args.self.now.holds in
    record { autocommit = did.mode; holds = current_with c.args.self.now.holds (did.survives store) c.commit.result (λ clean. did.ok clean store) (λ clean. did.err clean store) }

pub returns : goal.returns
returns g c =
    let did = c.commit.ensures in
    let store = as_store c.args.self.now.holds in
    added current_layout GainsForms c.commit.result store did.ok (λ clean. did.err clean store) did.survives c.commit.result refl

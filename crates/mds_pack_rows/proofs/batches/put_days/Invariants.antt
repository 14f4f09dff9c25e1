use Rattle.std.proofs.Common.{◌≡◌, map, take}
use Rattle.sqlite.specs.Held.{state}
use Rattle.sqlite.specs.State.{KeepsCommit, Survives}
use Rattle.mds_tables.proofs.Batches.{flat}
use Rattle.mds_keeper.specs.Content.{version_fact, versions_of}
use Rattle.mds_pack_rows.specs.Putting.{IsThere, PutsFacts}
use Rattle.mds_pack_rows.proofs.batches.put_days.Given as goal

abbrev pub invariant-loop-batch : goal.invariant-loop-batch
invariant-loop-batch g l =
    let old = state g.S.Store l.fn.tx.conn.now in
    let now = state g.S.Store l.tx.conn.now in
    record {
      same : l.tx.conn.ghost_name ≡ l.initial.tx.conn.ghost_name;
      survives : Survives old now (λ _. ⊥);
      kept : IsThere old now → KeepsCommit old now;
      puts : PutsFacts old now (map version_fact (versions_of (flat (take l.batch-index l.batches))));
    }

use Rattle.std.proofs.Common.{◌≡◌, take}
use Rattle.sqlite.specs.Held.{state}
use Rattle.mds_keeper.specs.Content.{details_of}
use Rattle.mds_pack_rows.proofs.DetailLemmas.{PutsSince}
use Rattle.mds_pack_rows.proofs.details.put_details.Given as goal

abbrev pub invariant-loop-group : goal.invariant-loop-group
invariant-loop-group g l =
    record {
      same : l.tx.conn.ghost_name ≡ l.initial.tx.conn.ghost_name;
      since : PutsSince (state g.S.Store l.fn.tx.conn.now) (state g.S.Store l.tx.conn.now) (details_of (take l.group-index l.details));
    }

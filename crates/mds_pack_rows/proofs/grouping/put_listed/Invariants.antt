use Rattle.std.proofs.Common.{◌≡◌, ◌++◌, ℕ, List, length, map}
use Rattle.sqlite.specs.Held.{state}
use Rattle.sqlite.specs.State.{KeepsCommit, Survives}
use Rattle.mds_keeper.specs.Books.{row_fact}
use Rattle.mds_keeper.specs.declared.day_book.Version.{Version}
use Rattle.mds_pack_rows.specs.Putting.{IsThere, PutsFacts}
use Rattle.mds_pack_rows.proofs.grouping.put_listed.Given as goal

abbrev pub invariant-loop-left : goal.invariant-loop-left
invariant-loop-left g l =
    let old = state g.S.Store l.fn.tx.conn.now in
    let now = state g.S.Store l.tx.conn.now in
    record {
      same : l.tx.conn.ghost_name ≡ l.initial.tx.conn.ghost_name;
      survives : Survives old now (λ _. ⊥);
      kept : IsThere old now → KeepsCommit old now;
      puts : (front : List (ℕ × Version)) × (front ++ l.left ≡ l.rows)
          × PutsFacts old now (map (row_fact l.stream l.day) front);
    }

abbrev pub decreases-loop-left : goal.decreases-loop-left
decreases-loop-left g l = length l.left

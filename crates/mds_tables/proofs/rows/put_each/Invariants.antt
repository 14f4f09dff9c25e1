use Rattle.std.proofs.Common.{◌≡◌, Ok, take}
use Rattle.sqlite.specs.Held.{state}
use Rattle.mds_tables.specs.Tables.{More, schema_with}
use Rattle.mds_tables.specs.Parts.{singly}
use Rattle.mds_tables.specs.Writing.{PutsEach}
use Rattle.mds_tables.specs.Tabling.{part_in}
use Rattle.mds_tables.proofs.rows.put_each.Given as goal

abbrev pub invariant-loop-item : goal.invariant-loop-item
invariant-loop-item g l =
    record {
      same : l.tx.conn.ghost_name ≡ l.initial.tx.conn.ghost_name;
      puts : (rest : More) → PutsEach {X = Unit {0}} (schema_with ((g.T.Tabled.tabling l.with).behind rest)) (part_in (g.T.Tabled.tabling l.with))
          (singly (part_in (g.T.Tabled.tabling l.with)) (take l.item-index l.items))
          (state g.S.Store l.fn.tx.conn.now) (state g.S.Store l.tx.conn.now) (Ok tt) (take l.item-index l.items);
    }

use Rattle.std.proofs.Common.{◌≡◌, ◌*◌, Ok, take}
use Rattle.std.specs.Simd.{first_chunks}
use Rattle.sqlite.specs.Held.{state}
use Rattle.mds_tables.specs.Tables.{More, schema_with}
use Rattle.mds_tables.specs.Parts.{statements_of, together}
use Rattle.mds_tables.specs.Tabling.{part_in}
use Rattle.mds_tables.specs.Writing.{PutsEach}
use Rattle.mds_tables.proofs.rows.put_all.Given as goal

abbrev pub invariant-loop-k : goal.invariant-loop-k
invariant-loop-k g l =
    record {
      same : l.tx.conn.ghost_name ≡ l.initial.tx.conn.ghost_name;
      puts : (rest : More) → PutsEach {X = Unit {0}} (schema_with ((g.T.Tabled.tabling l.with).behind rest)) (part_in (g.T.Tabled.tabling l.with))
          (statements_of (part_in (g.T.Tabled.tabling l.with)) (first_chunks together l.k l.items))
          (state g.S.Store l.fn.tx.conn.now) (state g.S.Store l.tx.conn.now) (Ok tt) (take (l.k * together) l.items);
    }

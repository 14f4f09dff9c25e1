use Rattle.std.proofs.Common.{◌≡◌, Ok, take}
use Rattle.sqlite.specs.Held.{state}
use Rattle.mds_keeper.specs.declared.keeper.Unavailable.{Unavailable}
use Rattle.mds_tables.specs.Frames.{Frames}
use Rattle.mds_pack_rows.specs.FormTables.{schema_4}
use Rattle.mds_migrate.specs.Forming.{PutsForms}
use Rattle.mds_migrate.proofs.forming.form_each.Given as goal

abbrev pub invariant-loop-pack : goal.invariant-loop-pack
invariant-loop-pack g l =
    let old = state g.S.Store l.fn.tx.conn.now in
    let now = state g.S.Store l.tx.conn.now in
    record {
      same : l.tx.conn.ghost_name ≡ l.fn.tx.conn.ghost_name;
      frames : Frames {X = Unit {0}} {E = Unavailable} schema_4 (λ _. PutsForms old now l.fn.head (take l.pack-index l.packs)) old now (Ok tt);
    }

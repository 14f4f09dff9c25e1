use Rattle.std.proofs.Common.{◌≡◌}
use Rattle.sqlite.specs.Held.{state}
use Rattle.sqlite.specs.State.{HasCleanDisk, KeepsCommit, Survives}
use Rattle.mds_tables.specs.Making.{MakesThere}
use Rattle.mds_tables.specs.Tables.{no_schema}
use Rattle.mds_pack_rows.specs.Schemas.{schema_of}
use Rattle.mds_commit.proofs.making.make_each.Given as goal

abbrev pub invariant-loop-n : goal.invariant-loop-n
invariant-loop-n g l =
    let old = state g.S.Store l.fn.tx.conn.now in
    let now = state g.S.Store l.tx.conn.now in
    record {
      same : l.tx.conn.ghost_name ≡ l.initial.tx.conn.ghost_name;
      survives : Survives old now (λ _. ⊥);
      kept : HasCleanDisk now → KeepsCommit old now;
      made : MakesThere no_schema (schema_of l.n) old now;
    }

use Rattle.std.proofs.Common.{◌≡◌, ◌≤◌, None, Ok, take}
use Rattle.sqlite.specs.Held.{state}
use Rattle.sqlite_trees.specs.View.{doubt}
use Rattle.mds_keeper.specs.declared.keeper.Unavailable.{Unavailable}
use Rattle.mds_tables.specs.Frames.{Frames}
use Rattle.mds_pack_rows.specs.DailyTables.{schema_3}
use Rattle.mds_migrate.specs.Dating.{DatesDays}
use Rattle.mds_migrate.proofs.dating.date_days.Given as goal

abbrev pub invariant-loop-row : goal.invariant-loop-row
invariant-loop-row g l =
    let old = state g.S.Store l.fn.tx.conn.now in
    let now = state g.S.Store l.tx.conn.now in
    record {
      same : l.tx.conn.ghost_name ≡ l.fn.tx.conn.ghost_name;
      later : doubt (state g.S.Store l.initial.tx.conn.now).is_clean ≤ doubt now.is_clean;
      frames : Frames {X = Unit {0}} {E = Unavailable} schema_3 (λ _. DatesDays old now None l.known (take l.row-index l.row-items)) old now (Ok tt);
    }

use Rattle.std.proofs.Common.{◌≡◌, Ok, take}
use Rattle.sqlite.specs.Held.{state}
use Rattle.mds_keeper.specs.declared.keeper.Unavailable.{Unavailable}
use Rattle.mds_tables.proofs.Batches.{flat}
use Rattle.mds_commit.specs.FormPutting.{SayUnits}
use Rattle.mds_commit.specs.Units.{AsksThere}
use Rattle.mds_commit.proofs.units.have_units.Given as goal

abbrev pub invariant-loop-batch : goal.invariant-loop-batch
invariant-loop-batch g l =
    record {
      same : l.tx.conn.ghost_name ≡ l.initial.tx.conn.ghost_name;
      asked : AsksThere {X = Unit {0}} {E = Unavailable} (state g.S.Store l.fn.tx.conn.now) (state g.S.Store l.tx.conn.now) (Ok tt)
          (λ _. SayUnits (flat (take l.batch-index l.batches)));
    }

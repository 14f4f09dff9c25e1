use Rattle.std.proofs.Common.{◌≡◌, Ok, take}
use Rattle.sqlite.specs.Held.{state}
use Rattle.mds_tables.specs.Tables.{More, schema_with}
use Rattle.mds_tables.specs.Parts.{event_part, singly}
use Rattle.mds_tables.specs.Writing.{PutsEach}
use Rattle.mds_tables.proofs.putting.put_events.Given as goal

abbrev pub invariant-loop-event : goal.invariant-loop-event
invariant-loop-event g l =
    record {
      same : l.tx.conn.ghost_name ≡ l.initial.tx.conn.ghost_name;
      puts : (more : More) → PutsEach {X = Unit {0}} (schema_with more) event_part (singly event_part (take l.event-index l.events))
          (state g.S.Store l.fn.tx.conn.now) (state g.S.Store l.tx.conn.now) (Ok tt) (take l.event-index l.events);
    }

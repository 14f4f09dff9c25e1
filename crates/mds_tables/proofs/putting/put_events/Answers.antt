use Rattle.std.proofs.Common.{◌+◌, Ok, arith, drop, refl, rules, subst, take_all}
use Rattle.std.proofs.lemmas.Result.{err_from_is_err_and}
use Rattle.sqlite.specs.Held.{state}
use Rattle.mds_tables.specs.Tables.{schema_with}
use Rattle.mds_tables.specs.Parts.{event_part, singly}
use Rattle.mds_tables.specs.Writing.{PutsEach}
use Rattle.mds_tables.proofs.ChangeLemmas.{more_put, more_stopped, none_put}
use Rattle.mds_tables.proofs.Batches.{singly_both, singly_more}
use Rattle.mds_tables.proofs.PutLemmas.{one_more}
use Rattle.mds_tables.proofs.putting.put_events.Goals as goal

pub loop-event-init : goal.loop-event-init
loop-event-init g c = record { same = refl; puts = λ more. none_put (state g.S.Store c.args.tx.now.conn.now) }

pub loop-event-preserved : goal.loop-event-preserved
loop-event-preserved g c =
    let events = c.args.events.now in
    let at = c.loop-event.event-index in
    let event = c.event-item.result in
    record {
      same = search rules;
      puts = λ more. more_put (c.loop-event.invariant.puts more) (one_more events at event (omega arith) c.event-item.is)
          (singly_more event_part events at event (one_more events at event (omega arith) c.event-item.is)) (c.in_ok-put_event.ensures.puts more);
    }

pub returns-in_err-put_event-clause-puts : goal.returns-in_err-put_event-clause-puts
returns-in_err-put_event-clause-puts g c more =
    let p = err_from_is_err_and c.from_residual.result c.from_residual.ensures.1 in
    let events = c.args.events.now in
    let at = c.loop-event.event-index in
    let event = c.event-item.result in
    rw (p.1, p.2)
    (more_stopped (c.loop-event.invariant.puts more) (singly event_part (drop (at + 1) events))
    (singly_both event_part events at event (one_more events at event (omega arith) c.event-item.is)) (c.in_err-put_event.ensures.puts more))

pub returns-clause-puts : goal.returns-clause-puts
returns-clause-puts g c more =
    subst (λ events. PutsEach {X = Unit {0}} (schema_with more) event_part (singly event_part events) (state g.S.Store c.args.tx.now.conn.now)
    (state g.S.Store c.loop-event.tx.conn.now) (Ok tt) events)
    (take_all c.loop-event.event-index c.args.events.now (omega arith)) (c.loop-event.invariant.puts more)

use Rattle.std.proofs.Common.{◌≡◌, subst, sym}
use Rattle.std.proofs.lemmas.Result.{IfOk-weaker}
use Rattle.mds_tables.specs.Added.{SaysEvent}
use Rattle.mds_tables.specs.Shown.{AreEventsIn}
use Rattle.mds_tables.proofs.Adding.{just}
use Rattle.mds_tables.proofs.querying.all_events.Goals as goal

pub returns-clause-each : goal.returns-clause-each
returns-clause-each c =
    let rows = c.args.rows.now in
    let keys = c.add_events.new.found.keys in
    IfOk-weaker c.in_order.result (λ all. all.items ≡ keys) _
    (λ all same. subst (AreEventsIn rows) (sym same)
    (just SaysEvent c.new-found.result.keys keys rows c.new-found.ensures.empty c.in_ok-add_events.ensures))
    c.in_order.ensures.same

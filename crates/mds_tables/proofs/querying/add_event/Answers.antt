use Rattle.std.proofs.lemmas.Result.{on_ok_weaker}
use Rattle.mds_terms.proofs.TermOrder.{event_exact}
use Rattle.mds_tables.specs.Added.{SaysEvent}
use Rattle.mds_tables.proofs.Adding.{adds_one, one_event}
use Rattle.mds_tables.proofs.querying.add_event.Goals as goal

pub returns : goal.returns
returns c =
    on_ok_weaker c.put.result
    (λ h. adds_one SaysEvent c.args.found.now.keys c.put.new.found.keys c.args.row.now c.in_ok-event.event h c.in_ok-event.ensures.ok
    (λ q s. one_event c.args.row.now q c.in_ok-event.event s c.in_ok-event.ensures.ok))
    (c.put.ensures event_exact)

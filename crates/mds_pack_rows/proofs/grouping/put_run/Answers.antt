use Rattle.std.proofs.Common.{subst, ap, ◌∙◌}
use Rattle.std.specs.Prelude.{IfSome}
use Rattle.sqlite.specs.Held.{state}
use Rattle.mds_tables.proofs.RowLemmas.{of}
use Rattle.mds_pack_rows.specs.PackFacts.{readings_facts}
use Rattle.mds_pack_rows.specs.Putting.{SayRows}
use Rattle.mds_pack_rows.proofs.PutLemmas.{if_ok, puts_as}
use Rattle.mds_pack_rows.proofs.grouping.put_run.Goals as goal

pub returns-clause-ok : goal.returns-clause-ok
returns-clause-ok g c =
    let s = c.args.stream.now in
    let says : SayRows c.args.update c.in-Some.readings.items c.args.rows.now =
    subst (λ o. IfSome o (λ readings. SayRows c.args.update readings.items c.args.rows.now)) c.in-Some.is c.in_ok-readings.ensures.says in
    if_ok c.put_readings.result _ _
    (puts_as (state g.S.Store c.args.tx.now.conn.now) (state g.S.Store c.put_readings.new.tx.conn.now) _ _
    (ap (λ readings. of (readings_facts s c.args.day c.args.update readings)) c.as_slice.ensures.value ∙ says s c.args.day))
    c.put_readings.ensures.ok

use Rattle.std.proofs.Common.{◌≡◌, Some, OnOk, ap, subst, ◌∙◌}
use Rattle.sqlite.specs.Held.{state}
use Rattle.mds_pack_rows.specs.PackFacts.{readings_in}
use Rattle.mds_pack_rows.specs.Putting.{PutsFacts}
use Rattle.mds_pack_rows.proofs.BodyLemmas.{says}
use Rattle.mds_pack_rows.proofs.PutLemmas.{says_day, says_some}
use Rattle.mds_pack_rows.proofs.putting.add_row.Goals as goal

pub insert_body-requires : goal.insert_body-requires
insert_body-requires g c =
    let readings = c.args.readings.now in
    let is : readings_in c.as_slice.result.now ≡ Some readings =
    ap readings_in c.as_slice.ensures.value ∙ says _ c.in_ok-body.body.items readings (c.in_ok-body.ensures.back c.requires.some) in
    record { some = says_some c.args.stream.now c.args.day c.args.update c.as_slice.result.now readings is c.requires.some }

pub returns-clause-ok : goal.returns-clause-ok
returns-clause-ok g c =
    let readings = c.args.readings.now in
    let is : readings_in c.as_slice.result.now ≡ Some readings =
    ap readings_in c.as_slice.ensures.value ∙ says _ c.in_ok-body.body.items readings (c.in_ok-body.ensures.back c.requires.some) in
    subst (λ facts. OnOk c.insert_body.result (PutsFacts (state g.S.Store c.args.tx.now.conn.now) (state g.S.Store c.insert_body.new.tx.conn.now) facts))
    (says_day c.args.stream.now c.args.day c.args.update c.as_slice.result.now readings is) c.insert_body.ensures.ok

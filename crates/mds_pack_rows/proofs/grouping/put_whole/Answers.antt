use Rattle.std.proofs.Common.{◌≡◌, ap, length, rules, subst, ◌∙◌}
use Rattle.sqlite.specs.Held.{state}
use Rattle.mds_pack_rows.specs.PackFacts.{minutes_of, readings_facts}
use Rattle.mds_pack_rows.specs.Putting.{PutsFacts}
use Rattle.mds_pack_rows.proofs.BodyLemmas.{length_back}
use Rattle.mds_pack_rows.proofs.PutLemmas.{if_ok, whole_said}
use Rattle.mds_pack_rows.proofs.grouping.put_whole.Goals as goal

pub returns-clause-ok : goal.returns-clause-ok
returns-clause-ok g c =
    let s = c.args.stream.now in
    let day = c.args.day in
    let update = c.args.update in
    let many : length c.args.readings.now ≡ c.count.result = search rules in
    let full : minutes_of (length c.args.readings.now) ≡ c.args.length =
    ap minutes_of (many ∙ c.count.ensures.value) ∙ length_back c.args.length c.minutes.ensures.known in
    if_ok c.put_readings.result _ _
    (subst (PutsFacts (state g.S.Store c.args.tx.now.conn.now) (state g.S.Store c.put_readings.new.tx.conn.now))
    (ap (readings_facts s day update) (c.as_slice.ensures.value ∙ c.in_ok-places.ensures) ∙ whole_said s day c.args.length update c.args.readings.now full))
    c.put_readings.ensures.ok

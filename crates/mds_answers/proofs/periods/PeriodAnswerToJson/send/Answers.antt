use Rattle.std.proofs.Common.{subst}
use Rattle.std.proofs.lemmas.Result.{on_ok_weaker}
use Rattle.serde_json.specs.Data.{array}
use Rattle.serde_json.specs.View.{items_of}
use Rattle.mds_answers.specs.Json.{AreEach, IsPeriod}
use Rattle.mds_answers.proofs.Sent.{periods_json}
use Rattle.mds_answers.proofs.periods.PeriodAnswerToJson.send.Goals as goal

pub returns : goal.returns
returns g c =
    let w = g.S.Serializer.written in
    let periods = c.in_ok-send_list.ensures in
    let are = subst (λ xs. AreEach IsPeriod xs periods.0) c.deref.ensures.value periods.1 in
    let m1 = c.in_ok-send_text.ensures in
    let m2 = periods.2 in
    let m3 = c.in_ok-send_text-2.ensures in
    on_ok_weaker c.end_map.result (λ ended. (
      periods_json c.text.result.now (array (items_of periods.0)) c.text-2.result.now,
      (periods.0, are, λ i. periods_json (c.text.ensures.value i) (array (items_of periods.0)) (c.text-2.ensures.value i)),
      (
        w c.begin_map.new.self,
        c.in_ok-begin_map.ensures,
        (m1.0, w c.send_text.new.out, m1.1, m1.2, (m2.0, w c.send_list.new.out, m2.1, m2.2, (m3.0, w c.send_text-2.new.out, m3.1, m3.2, ended))),
      ),
    )) c.end_map.ensures

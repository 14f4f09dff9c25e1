use Rattle.std.proofs.Common.{◌≡◌, ◌∙◌, Some, ap, subst}
use Rattle.std.proofs.lemmas.Result.{on_ok_weaker}
use Rattle.serde_json.specs.Data.{array}
use Rattle.serde_json.specs.View.{items_of}
use Rattle.mds_calendar.specs.Calendar.{day_of}
use Rattle.mds_terms.proofs.Texts.{day_is_digits}
use Rattle.mds_answers.specs.Json.{AreEach, IsVersion}
use Rattle.mds_answers.proofs.Sent.{versions_json}
use Rattle.mds_answers.proofs.days.VersionsAnswerToJson.send.Goals as goal

pub digits_text-requires : goal.digits_text-requires
digits_text-requires g c = day_is_digits c.digits-date.result _ c.digits-date.ensures

pub returns : goal.returns
returns g c =
    let w = g.S.Serializer.written in
    let answer = c.args.self.now in
    let date = c.digits_text.result.now in
    let dated : day_of date ≡ Some answer.day = ap day_of c.digits_text.ensures ∙ c.digits-date.ensures in
    let versions = c.in_ok-send_list.ensures in
    let are = subst (λ xs. AreEach IsVersion xs versions.0) c.deref.ensures.value versions.1 in
    let m1 = c.in_ok-send_text.ensures in
    let m2 = c.in_ok-send_number.ensures in
    let m3 = c.in_ok-send_text-2.ensures in
    let m4 = c.in_ok-send_text-3.ensures in
    let m5 = versions.2 in
    on_ok_weaker c.end_map.result (λ ended. (
      versions_json date c.from.result c.text.result.now c.text-2.result.now (array (items_of versions.0)),
      (
        date,
        versions.0,
        dated,
        are,
        λ i. versions_json date (c.from.ensures i) (c.text.ensures.value i) (c.text-2.ensures.value i) (array (items_of versions.0)),
      ),
      (
        w c.begin_map.new.self,
        c.in_ok-begin_map.ensures,
        (
          m1.0,
          w c.send_text.new.out,
          m1.1,
          m1.2,
          (
            m2.0,
            w c.send_number.new.out,
            m2.1,
            m2.2,
            (
              m3.0,
              w c.send_text-2.new.out,
              m3.1,
              m3.2,
              (m4.0, w c.send_text-3.new.out, m4.1, m4.2, (m5.0, w c.send_list.new.out, m5.1, m5.2, ended)),
            ),
          ),
        ),
      ),
    )) c.end_map.ensures

use Rattle.std.proofs.Common.{◌≡◌, ◌∙◌, Some, ap, map, subst}
use Rattle.std.proofs.lemmas.Result.{on_ok_weaker}
use Rattle.serde_json.specs.Data.{array}
use Rattle.serde_json.specs.View.{items_of}
use Rattle.mds_calendar.specs.Calendar.{day_of, moment_of}
use Rattle.mds_marks.specs.Reading.{ReadingValue}
use Rattle.mds_terms.proofs.Texts.{day_is_digits, moment_is_digits}
use Rattle.mds_answers.specs.Json.{AreEach, IsEvent, reading_texts, texts}
use Rattle.mds_answers.proofs.Sent.{day_json}
use Rattle.mds_answers.proofs.days.DayAnswerToJson.send.Goals as goal

pub digits_text-requires : goal.digits_text-requires
digits_text-requires g c = day_is_digits c.digits-date.result _ c.digits-date.ensures

pub digits_text-requires-2 : goal.digits_text-requires-2
digits_text-requires-2 g c = moment_is_digits c.digits-update.result _ c.digits-update.ensures

pub returns : goal.returns
returns g c =
    let w = g.S.Serializer.written in
    let day = c.args.self.now in
    let date = c.digits_text.result.now in
    let update = c.digits_text-2.result.now in
    let dated : day_of date ≡ Some day.day = ap day_of c.digits_text.ensures ∙ c.digits-date.ensures in
    let updated : moment_of update ≡ Some day.update = ap moment_of c.digits_text-2.ensures ∙ c.digits-update.ensures in
    let events = c.in_ok-send_list.ensures in
    let are = subst (λ xs. AreEach IsEvent xs events.0) c.deref.ensures.value events.1 in
    let f = λ (reading : ReadingValue). texts (reading_texts reading) in
    let m1 = c.in_ok-send_text.ensures in
    let m2 = events.2 in
    let m3 = c.in_ok-send_number.ensures in
    let m4 = c.in_ok-send_text-2.ensures in
    let m5 = c.in_ok-send_readings.ensures in
    let m6 = c.in_ok-send_text-3.ensures in
    let m7 = c.in_ok-send_text-4.ensures in
    let m8 = c.in_ok-send_text-5.ensures in
    on_ok_weaker c.end_map.result (λ ended. (
      day_json date (array (items_of events.0)) c.minutes_of.result c.text.result.now
          (array (items_of (map f c.deref-2.result.now))) c.text-2.result.now c.text-3.result.now update,
      (
        date,
        update,
        events.0,
        dated,
        updated,
        are,
        λ i. day_json date (array (items_of events.0)) (c.minutes_of.ensures i) (c.text.ensures.value i)
            (array (items_of (map f (c.deref-2.ensures.value i)))) (c.text-2.ensures.value i) (c.text-3.ensures.value i) update,
      ),
      (
        w c.begin_map.new.self,
        c.in_ok-begin_map.ensures,
        (
          m1.0,
          w c.send_text.new.out,
          m1.1,
          m1.2,
          (
            m2.0,
            w c.send_list.new.out,
            m2.1,
            m2.2,
            (
              m3.0,
              w c.send_number.new.out,
              m3.1,
              m3.2,
              (
                m4.0,
                w c.send_text-2.new.out,
                m4.1,
                m4.2,
                (
                  m5.0,
                  w c.send_readings.new.out,
                  m5.1,
                  m5.2,
                  (
                    m6.0,
                    w c.send_text-3.new.out,
                    m6.1,
                    m6.2,
                    (
                      m7.0,
                      w c.send_text-4.new.out,
                      m7.1,
                      m7.2,
                      (m8.0, w c.send_text-5.new.out, m8.1, m8.2, ended),
                    ),
                  ),
                ),
              ),
            ),
          ),
        ),
      ),
    )) c.end_map.ensures

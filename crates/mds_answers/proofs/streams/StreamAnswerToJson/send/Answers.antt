use Rattle.std.proofs.Common.{◌∙◌, Some, ap}
use Rattle.std.proofs.lemmas.Result.{on_ok_weaker}
use Rattle.mds_answers.proofs.Sent.{stream_json}
use Rattle.mds_answers.proofs.streams.StreamAnswerToJson.send.Goals as goal

pub returns : goal.returns
returns g c =
    let w = g.S.Serializer.written in
    let next = c.in_ok-send_optional_day.ensures in
    let m1 = c.in_ok-send_text.ensures in
    let m2 = c.in_ok-send_text-2.ensures in
    let m3 = c.in_ok-send_text-3.ensures in
    let m4 = next.2 in
    let m5 = c.in_ok-send_text-4.ensures in
    let m6 = c.in_ok-send_text-5.ensures in
    let m7 = c.in_ok-send_text-6.ensures in
    on_ok_weaker c.end_map.result (λ ended. (
      stream_json c.configuration.result.now c.datastream.result.now c.meter.result.now next.0 c.text.result.now c.register.result.now
          c.text-2.result.now,
      (
        next.0,
        next.1 ∙ ap (λ day. Some day) c.next.ensures,
        λ i. stream_json (c.configuration.ensures.value i) (c.datastream.ensures i) (c.meter.ensures i) next.0 (c.text.ensures.value i)
            (c.register.ensures i) (c.text-2.ensures.value i),
      ),
      (
        w c.begin_map.new.self,
        c.in_ok-begin_map.ensures,
        (
          m1.0,
          w c.send_text.new.out,
          m1.1,
          m1.2,
          (
            m2.0,
            w c.send_text-2.new.out,
            m2.1,
            m2.2,
            (
              m3.0,
              w c.send_text-3.new.out,
              m3.1,
              m3.2,
              (
                m4.0,
                w c.send_optional_day.new.out,
                m4.1,
                m4.2,
                (
                  m5.0,
                  w c.send_text-4.new.out,
                  m5.1,
                  m5.2,
                  (m6.0, w c.send_text-5.new.out, m6.1, m6.2, (m7.0, w c.send_text-6.new.out, m7.1, m7.2, ended)),
                ),
              ),
            ),
          ),
        ),
      ),
    )) c.end_map.ensures

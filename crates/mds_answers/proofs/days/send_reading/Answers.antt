use Rattle.std.proofs.lemmas.Result.{on_ok_weaker}
use Rattle.mds_answers.proofs.Sent.{reading_sent}
use Rattle.mds_answers.proofs.days.send_reading.Goals as goal

pub returns : goal.returns
returns g c =
    let w = g.S.Serializer.written in
    on_ok_weaker c.send_value.result
    (reading_sent c.args.reading.now c.mark-mark.result.now c.code.result c.text.result.now c.value.result (w c.args.out.now)
    (w c.send_quality.new.out) (w c.send_code.new.out) (w c.str.new.self) (w c.send_value.new.out) c.mark-mark.ensures.value
    c.code.ensures.value c.text.ensures c.value.ensures.value c.in_ok-send_quality.ensures c.in_ok-send_code.ensures c.in_ok-str.ensures)
    c.send_value.ensures

use Rattle.std.proofs.lemmas.Result.{on_ok_weaker}
use Rattle.mds_answers.proofs.periods.send_parts.Goals as goal

pub returns : goal.returns
returns g c =
    let w = g.S.Serializer.written in
    let m1 = c.in_ok-send_value.ensures in
    let m2 = c.in_ok-send_value-2.ensures in
    on_ok_weaker c.end_map.result (λ ended. (
      w c.begin_map.new.self,
      c.in_ok-begin_map.ensures,
      (m1.0, w c.send_value.new.out, m1.1, m1.2, (m2.0, w c.send_value-2.new.out, m2.1, m2.2, ended)),
    )) c.end_map.ensures

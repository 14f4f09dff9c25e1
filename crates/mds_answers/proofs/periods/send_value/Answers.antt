use Rattle.std.proofs.lemmas.Result.{on_ok_weaker}
use Rattle.mds_answers.proofs.periods.send_value.Goals as goal

pub returns : goal.returns
returns g c = on_ok_weaker c.serialize.result (λ sent. (g.S.Serializer.written c.key.new.self, c.in_ok-key.ensures, sent)) c.serialize.ensures

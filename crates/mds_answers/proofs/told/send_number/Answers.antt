use Rattle.std.proofs.lemmas.Result.{on_ok_weaker}
use Rattle.mds_answers.proofs.told.send_number.Goals as goal

pub returns : goal.returns
returns g c = on_ok_weaker c.u64.result (λ sent. (g.S.Serializer.written c.key.new.self, c.in_ok-key.ensures, sent)) c.u64.ensures

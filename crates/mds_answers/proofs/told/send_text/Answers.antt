use Rattle.std.proofs.lemmas.Result.{on_ok_weaker}
use Rattle.mds_answers.proofs.told.send_text.Goals as goal

pub returns : goal.returns
returns g c = on_ok_weaker c.str.result (λ sent. (g.S.Serializer.written c.key.new.self, c.in_ok-key.ensures, sent)) c.str.ensures

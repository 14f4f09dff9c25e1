use Rattle.std.proofs.Common.{refl}
use Rattle.std.proofs.lemmas.Result.{on_ok_weaker}
use Rattle.mds_answers.specs.Json.{reading_texts, texts}
use Rattle.mds_answers.proofs.Lists.{texts_sent}
use Rattle.mds_answers.proofs.days.ReadingToJson.send.Goals as goal

pub returns : goal.returns
returns g c =
    let w = g.S.Serializer.written in
    let parts = reading_texts c.args.self.now in
    on_ok_weaker c.end_seq.result (λ ended. (
      texts parts,
      refl,
      texts_sent parts (w c.args.out.now) (w c.begin_seq.new.self) (w c.send_reading.new.out) (w c.end_seq.new.self) c.in_ok-begin_seq.ensures
          c.in_ok-send_reading.ensures ended,
    )) c.end_seq.ensures

use Rattle.std.proofs.Common.{◌∷◌, ◌∙◌, ℕ, List, [], Some, ap, refl}
use Rattle.std.proofs.lemmas.Result.{on_ok_weaker}
use Rattle.mds_terms.specs.Event.{trans_text}
use Rattle.mds_answers.specs.Json.{texts}
use Rattle.mds_answers.proofs.Lists.{texts_sent}
use Rattle.mds_answers.proofs.days.EventToJson.send.Goals as goal

pub returns : goal.returns
returns g c =
    let w = g.S.Serializer.written in
    let moment = c.in_ok-send_optional_moment.ensures in
    let parts : List (List ℕ) = trans_text c.trans.result ∷ c.ticket.result.now ∷ moment.0 ∷ c.reading.result.now ∷ [] in
    on_ok_weaker c.end_seq.result (λ ended. (
      texts parts,
      (
        moment.0,
        moment.1 ∙ ap (λ read_at. Some read_at) c.moment.ensures,
        λ i. texts (trans_text (c.trans.ensures i) ∷ c.ticket.ensures i ∷ moment.0 ∷ c.reading.ensures i ∷ []),
      ),
      texts_sent parts (w c.args.out.now) (w c.begin_seq.new.self) (w c.str-2.new.self) (w c.end_seq.new.self) c.in_ok-begin_seq.ensures (
        w c.send_trans.new.out,
        c.in_ok-send_trans.ensures,
        (
          w c.str.new.self,
          c.in_ok-str.ensures,
          (w c.send_optional_moment.new.out, moment.2, (w c.str-2.new.self, c.in_ok-str-2.ensures, refl)),
        ),
      ) ended,
    )) c.end_seq.ensures

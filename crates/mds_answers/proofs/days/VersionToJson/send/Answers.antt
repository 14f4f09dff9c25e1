use Rattle.std.proofs.Common.{◌≡◌, ◌∷◌, ◌++◌, ◌∙◌, ℕ, List, [], Some, decimal, refl, ap}
use Rattle.std.proofs.lemmas.Result.{on_ok_weaker}
use Rattle.serde.proofs.Events.{WritesEach-snoc}
use Rattle.mds_calendar.specs.Calendar.{moment_of}
use Rattle.mds_terms.proofs.Texts.{moment_is_digits}
use Rattle.mds_answers.specs.Json.{reading_texts, texts}
use Rattle.mds_answers.specs.JsonSteps.{SendsText}
use Rattle.mds_answers.proofs.Lists.{texts_sent}
use Rattle.mds_answers.proofs.days.VersionToJson.send.Goals as goal

pub digits_text-requires : goal.digits_text-requires
digits_text-requires g c = moment_is_digits c.digits-update.result _ c.digits-update.ensures

pub returns : goal.returns
returns g c =
    let w = g.S.Serializer.written in
    let update = c.digits_text.result.now in
    let reads : moment_of update ≡ Some c.args.self.now.update = ap moment_of c.digits_text.ensures ∙ c.digits-update.ensures in
    let reading = reading_texts c.args.self.now.reading in
    let minutes = decimal c.args.self.now.length in
    let parts : List (List ℕ) = update ∷ (reading ++ minutes ∷ []) in
    let later = WritesEach-snoc SendsText reading minutes (w c.str.new.self) (w c.send_reading.new.out) (w c.send_length.new.out)
    c.in_ok-send_reading.ensures c.in_ok-send_length.ensures in
    on_ok_weaker c.end_seq.result (λ ended. (
      texts parts,
      (update, reads, refl),
      texts_sent parts (w c.args.out.now) (w c.begin_seq.new.self) (w c.send_length.new.out) (w c.end_seq.new.self) c.in_ok-begin_seq.ensures
          (w c.str.new.self, c.in_ok-str.ensures, later) ended,
    )) c.end_seq.ensures

use Rattle.std.proofs.Common.{◌∙◌, refl, ap, subst}
use Rattle.std.proofs.lemmas.Result.{on_ok_weaker}
use Rattle.serde_json.specs.Events.{SendsValue}
use Rattle.mds_statements.specs.Bodies.{with_field}
use Rattle.mds_statements.specs.Contents.{PeriodContent, content_of}
use Rattle.mds_answers.specs.JsonSteps.{content_json}
use Rattle.mds_answers.proofs.periods.PeriodToJson.send.Goals as goal

pub returns-in-Ok : goal.returns-in-Ok
returns-in-Ok g c =
    let w = g.S.Serializer.written in
    let (update, reads, says) = c.in-Ok.ensures in
    on_ok_weaker c.send_body.result (λ sent. (
      content_json (with_field c.args.self.now.content update),
      (update, reads, refl),
      subst (λ (said : PeriodContent). SendsValue (content_json said) (w c.args.out.now) (w c.send_body.new.out))
          (ap content_of c.as_str.ensures.value ∙ says) sent,
    )) c.send_body.ensures

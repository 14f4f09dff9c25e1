use Rattle.std.proofs.Common.{subst}
use Rattle.std.proofs.lemmas.Result.{on_ok_weaker}
use Rattle.serde_json.specs.Data.{Data}
use Rattle.serde_json.specs.Events.{SendsValue}
use Rattle.mds_answers.specs.JsonSteps.{parts_json}
use Rattle.mds_answers.proofs.periods.send_body.Goals as goal

pub returns-in-Ok : goal.returns-in-Ok
returns-in-Ok g c =
    let w = g.S.Serializer.written in
    on_ok_weaker c.send_parts.result
    (subst (λ (json : Data). SendsValue json (w c.args.out.now) (w c.send_parts.new.out))
    (λ i. parts_json (c.in-Ok.ensures.0 i) (c.in-Ok.ensures.1 i)))
    c.send_parts.ensures

use Rattle.std.proofs.Common.{codes, subst}
use Rattle.std.proofs.lemmas.Result.{on_ok_weaker}
use Rattle.serde_json.specs.Data.{array}
use Rattle.serde_json.specs.View.{items_of}
use Rattle.mds_answers.specs.Json.{reading_texts, texts}
use Rattle.mds_answers.specs.JsonSteps.{SendsMember}
use Rattle.mds_answers.proofs.Lists.{map_from_AreEach}
use Rattle.mds_answers.proofs.days.send_readings.Goals as goal

pub returns : goal.returns
returns g c =
    let w = g.S.Serializer.written in
    on_ok_weaker c.send_list.result
    (λ told. subst (λ all. SendsMember (codes "readings") (array (items_of all)) (w c.args.out.now) (w c.send_list.new.out))
    (map_from_AreEach (λ reading. texts (reading_texts reading)) c.args.readings.now told.0 told.1) told.2)
    c.send_list.ensures

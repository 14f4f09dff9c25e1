use Rattle.serde_json.proofs.FreeTexts.{text_of_value}
use Rattle.mds_answers.proofs.Floats.{no_float}
use Rattle.mds_answers.proofs.listed.list_json.Goals as goal

pub returns-in-Ok : goal.returns-in-Ok
returns-in-Ok c =
    let told = c.in-Ok.ensures.events in
    let json = told.1.0 in
    let is = told.1.1 in (
      json,
      is,
      text_of_value json told.0 c.in-Ok.text.items told.1.2 told.2 (no_float c.args.answer.now json c.requires is),
    )

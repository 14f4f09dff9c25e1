use Rattle.std.proofs.Common.{map, ap, ◌∙◌}
use Rattle.serde_json.specs.Data.{array}
use Rattle.serde_json.specs.View.{items_of, view}
use Rattle.mds_answers.proofs.Contents.{first_of_text, others_of_text}
use Rattle.mds_answers.proofs.periods.parts_of.Goals as goal

pub returns : goal.returns
returns c =
    let lines = c.in_ok-lines.lines.items in
    let text = c.args.body.now in (
      first_of_text lines text c.remove-fields.result c.in_ok-lines.ensures.lines c.remove-fields.ensures.value,
      c.from.ensures
          ∙ ap (λ notes. array (items_of notes)) (ap (map view) c.remove-fields.ensures.items ∙ others_of_text lines text c.in_ok-lines.ensures.lines),
    )

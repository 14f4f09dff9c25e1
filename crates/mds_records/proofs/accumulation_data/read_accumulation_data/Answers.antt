use Rattle.std.proofs.Common.{false, ◌∙◌, ap, option_map}
use Rattle.std.proofs.lemmas.Result.{MatchResult-weaker}
use Rattle.mds_records.specs.declared.fault.FieldFault.TheVariants.{Bad}
use Rattle.mds_records.specs.RecordSteps.{accumulation_tests, first_false, outcome}
use Rattle.mds_records.proofs.Outcomes.{accumulation_is}
use Rattle.mds_records.proofs.accumulation_data.read_accumulation_data.Goals as goal

pub returns-then-not-fields : goal.returns-then-not-fields
returns-then-not-fields c = λ file n.
    let f = c.split_accumulation_data-fields.result in
    accumulation_is file n c.args.text.now f c.split_accumulation_data-fields.ensures
    ∙ ap (λ whole. outcome false whole (first_false 2 (accumulation_tests f))) c.if-not-fields.true

pub returns : goal.returns
returns c = λ file n.
    let f = c.split_accumulation_data-fields.result in
    let is = accumulation_is file n c.args.text.now f c.split_accumulation_data-fields.ensures
    ∙ ap (λ whole. outcome false whole (first_false 2 (accumulation_tests f))) c.if-not-fields.false in
    MatchResult-weaker c.read_fields.result (c.read_fields.ensures c.args.text.now c.split_accumulation_data-fields.ensures)
    (λ r p. (is ∙ ap (option_map Bad) p.0, p.1)) (λ fault e. is ∙ e)

use Rattle.std.proofs.Common.{◌∙◌, refl}
use Rattle.std.proofs.lemmas.Result.{MatchResult-weaker}
use Rattle.mds_lines.specs.Lines.{fields_of}
use Rattle.mds_records.proofs.Outcomes.{end_is}
use Rattle.mds_records.proofs.Rests.{left_at}
use Rattle.mds_records.proofs.record.read_end.Goals as goal

pub returns : goal.returns
returns c = λ file n.
    let fs = fields_of c.args.text.now in
    let at1 = left_at fs _ _ 0 refl c.next_field.ensures.left in
    let is = end_is file n c.args.text.now _ _ at1 c.is_blank_from.ensures in
    MatchResult-weaker c.first_fault.result c.first_fault.ensures (λ _ e. is ∙ e) (λ fault e. is ∙ e)

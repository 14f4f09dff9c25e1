use Rattle.std.proofs.Common.{◌∙◌, refl}
use Rattle.mds_lines.specs.Lines.{fields_of}
use Rattle.mds_records.proofs.Outcomes.{whole_to}
use Rattle.mds_records.proofs.Rests.{taken_at, left_at}
use Rattle.mds_records.proofs.accumulation_b2b_details.split_accumulation_b2b_details.Goals as goal

pub returns : goal.returns
returns c =
    let fs = fields_of c.args.text.now in
    let at1 = left_at fs _ _ 0 refl c.next_field.ensures.left in
    let at2 = left_at fs _ _ 1 at1 c.next_field-2.ensures.left in
    let at3 = left_at fs _ _ 2 at2 c.next_field-3.ensures.left in
    let at4 = left_at fs _ _ 3 at3 c.next_field-4.ensures.left in
    let at5 = left_at fs _ _ 4 at4 c.next_field-5.ensures.left in
    record {
      previous_trans = c.next_field-2.ensures.taken ∙ taken_at fs _ 1 at1;
      previous_ticket = c.next_field-3.ensures.taken ∙ taken_at fs _ 2 at2;
      current_trans = c.next_field-4.ensures.taken ∙ taken_at fs _ 3 at3;
      current_ticket = c.next_field-5.ensures.taken ∙ taken_at fs _ 4 at4;
      whole = whole_to 5 c.args.text.now _ _ at5 c.is_blank_from.ensures;
    }

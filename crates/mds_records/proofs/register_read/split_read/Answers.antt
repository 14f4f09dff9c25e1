use Rattle.std.proofs.Common.{◌∙◌, refl, option_copied}
use Rattle.mds_lines.specs.Rest.{fields_left}
use Rattle.mds_records.proofs.Rests.{taken_at, left_at}
use Rattle.mds_records.proofs.register_read.split_read.Goals as goal

pub returns : goal.returns
returns c =
    let fs = fields_left (option_copied c.args.rest) in
    let at1 = left_at fs _ _ 0 refl c.next_field.ensures.left in
    let at2 = left_at fs _ _ 1 at1 c.next_field-2.ensures.left in
    let at3 = left_at fs _ _ 2 at2 c.next_field-3.ensures.left in
    let at4 = left_at fs _ _ 3 at3 c.next_field-4.ensures.left in
    record {
      fields = record {
        reading = c.next_field.ensures.taken;
        moment = c.next_field-2.ensures.taken ∙ taken_at fs _ 1 at1;
        quality = c.next_field-3.ensures.taken ∙ taken_at fs _ 2 at2;
        reason_code = c.next_field-4.ensures.taken ∙ taken_at fs _ 3 at3;
        reason_text = c.next_field-5.ensures.taken ∙ taken_at fs _ 4 at4;
      };
      left = left_at fs _ _ 4 at4 c.next_field-5.ensures.left;
    }

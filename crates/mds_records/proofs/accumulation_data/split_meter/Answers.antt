use Rattle.std.proofs.Common.{◌∙◌, refl, option_copied}
use Rattle.mds_lines.specs.Rest.{fields_left}
use Rattle.mds_records.proofs.Rests.{taken_at, left_at}
use Rattle.mds_records.proofs.accumulation_data.split_meter.Goals as goal

pub returns : goal.returns
returns c =
    let fs = fields_left (option_copied c.args.rest) in
    let at1 = left_at fs _ _ 0 refl c.next_field.ensures.left in
    let at2 = left_at fs _ _ 1 at1 c.next_field-2.ensures.left in
    let at3 = left_at fs _ _ 2 at2 c.next_field-3.ensures.left in
    let at4 = left_at fs _ _ 3 at3 c.next_field-4.ensures.left in
    let at5 = left_at fs _ _ 4 at4 c.next_field-5.ensures.left in
    let at6 = left_at fs _ _ 5 at5 c.next_field-6.ensures.left in
    record {
      fields = record {
        nmi = c.next_field.ensures.taken;
        configuration = c.next_field-2.ensures.taken ∙ taken_at fs _ 1 at1;
        register = c.next_field-3.ensures.taken ∙ taken_at fs _ 2 at2;
        suffix = c.next_field-4.ensures.taken ∙ taken_at fs _ 3 at3;
        datastream = c.next_field-5.ensures.taken ∙ taken_at fs _ 4 at4;
        meter = c.next_field-6.ensures.taken ∙ taken_at fs _ 5 at5;
        direction = c.next_field-7.ensures.taken ∙ taken_at fs _ 6 at6;
      };
      left = left_at fs _ _ 6 at6 c.next_field-7.ensures.left;
    }

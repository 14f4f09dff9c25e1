use Rattle.std.proofs.Common.{◌∙◌, refl}
use Rattle.mds_lines.specs.Lines.{fields_of}
use Rattle.mds_records.proofs.Rests.{taken_at, left_at, enough, right_count}
use Rattle.mds_records.proofs.nmi_data_details.split_details.Goals as goal

pub returns : goal.returns
returns c =
    let fs = fields_of c.args.text.now in
    let at1 = left_at fs _ _ 0 refl c.next_field.ensures.left in
    let at2 = left_at fs _ _ 1 at1 c.next_field-2.ensures.left in
    let at3 = left_at fs _ _ 2 at2 c.next_field-3.ensures.left in
    let at4 = left_at fs _ _ 3 at3 c.next_field-4.ensures.left in
    let at5 = left_at fs _ _ 4 at4 c.next_field-5.ensures.left in
    let at6 = left_at fs _ _ 5 at5 c.next_field-6.ensures.left in
    let at7 = left_at fs _ _ 6 at6 c.next_field-7.ensures.left in
    let at8 = left_at fs _ _ 7 at7 c.next_field-8.ensures.left in
    let at9 = left_at fs _ _ 8 at8 c.next_field-9.ensures.left in
    let at10 = left_at fs _ _ 9 at9 c.next_field-10.ensures.left in
    record {
      nmi = c.next_field-2.ensures.taken ∙ taken_at fs _ 1 at1;
      configuration = c.next_field-3.ensures.taken ∙ taken_at fs _ 2 at2;
      register = c.next_field-4.ensures.taken ∙ taken_at fs _ 3 at3;
      suffix = c.next_field-5.ensures.taken ∙ taken_at fs _ 4 at4;
      datastream = c.next_field-6.ensures.taken ∙ taken_at fs _ 5 at5;
      meter = c.next_field-7.ensures.taken ∙ taken_at fs _ 6 at6;
      unit = c.next_field-8.ensures.taken ∙ taken_at fs _ 7 at7;
      length = c.next_field-9.ensures.taken ∙ taken_at fs _ 8 at8;
      next = c.next_field-10.ensures.taken ∙ taken_at fs _ 9 at9;
      whole = c.has_right_count.ensures ∙ right_count _ _ fs 9 10 (c.is_some-has_least.ensures ∙ enough _ fs 8 at8) at10;
    }

use Rattle.std.proofs.Common.{◌∙◌, refl}
use Rattle.mds_lines.specs.Lines.{fields_of}
use Rattle.mds_records.proofs.Rests.{taken_at, left_at, left_after, meter_at, read_at, enough, right_count}
use Rattle.mds_records.proofs.accumulation_data.split_accumulation_data.Goals as goal

pub returns : goal.returns
returns c =
    let fs = fields_of c.args.text.now in
    let at1 = left_at fs _ _ 0 refl c.next_field.ensures.left in
    let at8 = left_after fs _ _ 1 7 at1 c.split_meter.ensures.left in
    let at13 = left_after fs _ _ 8 5 at8 c.split_read.ensures.left in
    let at18 = left_after fs _ _ 13 5 at13 c.split_read-2.ensures.left in
    let at19 = left_at fs _ _ 18 at18 c.next_field-2.ensures.left in
    let at20 = left_at fs _ _ 19 at19 c.next_field-3.ensures.left in
    let at21 = left_at fs _ _ 20 at20 c.next_field-4.ensures.left in
    let at22 = left_at fs _ _ 21 at21 c.next_field-5.ensures.left in
    let at23 = left_at fs _ _ 22 at22 c.next_field-6.ensures.left in
    record {
      head = meter_at fs _ 1 _ at1 c.split_meter.ensures.fields;
      previous = read_at fs _ 8 _ at8 c.split_read.ensures.fields;
      current = read_at fs _ 13 _ at13 c.split_read-2.ensures.fields;
      quantity = c.next_field-2.ensures.taken ∙ taken_at fs _ 18 at18;
      unit = c.next_field-3.ensures.taken ∙ taken_at fs _ 19 at19;
      next = c.next_field-4.ensures.taken ∙ taken_at fs _ 20 at20;
      update = c.next_field-5.ensures.taken ∙ taken_at fs _ 21 at21;
      load = c.next_field-6.ensures.taken ∙ taken_at fs _ 22 at22;
      whole = c.has_right_count.ensures ∙ right_count _ _ fs 20 23 (c.is_some-has_least.ensures ∙ enough _ fs 19 at19) at23;
    }

use Rattle.std.proofs.Common.{◌∙◌, refl}
use Rattle.mds_lines.specs.Lines.{fields_of}
use Rattle.mds_records.proofs.Rests.{taken_at, left_at, enough, right_count}
use Rattle.mds_records.proofs.interval_event.split_run.Goals as goal

pub returns : goal.returns
returns c =
    let fs = fields_of c.args.text.now in
    let at1 = left_at fs _ _ 0 refl c.next_field.ensures.left in
    let at2 = left_at fs _ _ 1 at1 c.next_field-2.ensures.left in
    let at3 = left_at fs _ _ 2 at2 c.next_field-3.ensures.left in
    let at4 = left_at fs _ _ 3 at3 c.next_field-4.ensures.left in
    let at5 = left_at fs _ _ 4 at4 c.next_field-5.ensures.left in
    let at6 = left_at fs _ _ 5 at5 c.next_field-6.ensures.left in
    record {
      first = c.next_field-2.ensures.taken ∙ taken_at fs _ 1 at1;
      last = c.next_field-3.ensures.taken ∙ taken_at fs _ 2 at2;
      quality = c.next_field-4.ensures.taken ∙ taken_at fs _ 3 at3;
      reason_code = c.next_field-5.ensures.taken ∙ taken_at fs _ 4 at4;
      reason_text = c.next_field-6.ensures.taken ∙ taken_at fs _ 5 at5;
      whole = c.has_right_count.ensures ∙ right_count _ _ fs 4 6 (c.is_some-has_least.ensures ∙ enough _ fs 3 at3) at6;
    }

use Rattle.std.proofs.Common.{◌∙◌}
use Rattle.mds_marks.specs.Reading.{value_text}
use Rattle.mds_registers.specs.ReadingsSteps.{mark_fields, row_front}
use Rattle.mds_registers.proofs.ReadingRows.{row_put}
use Rattle.mds_registers.proofs.readings.write_version.Goals as goal

pub returns : goal.returns
returns c = (
  c.put_update.new.text.digits,
  c.put_update.ensures,
  row_put c.args.rows.now.items _ _ _ _ _ _ (row_front c.args.day.now c.args.start.now) (mark_fields c.args.version.now.mark.now) _
      (value_text c.args.version.now.value) _ c.put_value.ensures.plain c.in_ok-write_front.ensures c.in_ok-write_mark.ensures
      c.in_ok-extend_from_slice.ensures.items c.in_ok-push.ensures.items c.in_ok-extend_from_slice-2.ensures.items
      c.in_ok-push-2.ensures.items (c.as_bytes.ensures.value ∙ c.in_ok-put_value.ensures.text),
)

use Rattle.std.proofs.Common.{ap, ◌∙◌, get_or}
use Rattle.mds_marks.specs.Reading.{ReadingValue, is_reading}
use Rattle.mds_marks.specs.declared.mark.Mark.{Mark}
use Rattle.mds_runs.proofs.KeptLemmas.{reading-goes, some-new}
use Rattle.mds_runs.proofs.day_readings.DayReadings.reading.Goals as goal

pub unwrap-requires : goal.unwrap-requires
unwrap-requires c =
    let d : ReadingValue = record { mark = c.in_ok-mark.mark; value = c.value.result } in
    let mark = c.in_ok-mark.ensures.value ∙ c.mark.ensures d in
    some-new c.new.result _ _ c.new.ensures
    (ap (λ (m : Mark). is_reading m.quality.flag c.value.result) mark
    ∙ ap (is_reading (get_or c.args.self.now c.args.at d).mark.quality.flag) (c.value.ensures d)
    ∙ reading-goes c.args.self.now c.args.at d c.are_lawful.ensures c.requires)

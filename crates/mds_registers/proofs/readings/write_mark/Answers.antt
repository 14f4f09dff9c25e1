use Rattle.std.proofs.lemmas.Result.{on_ok_weaker}
use Rattle.mds_marks.specs.Quality.{quality_text}
use Rattle.mds_marks.specs.Reason.{code_text}
use Rattle.mds_registers.proofs.PlainRows.{plain_quality}
use Rattle.mds_registers.proofs.ReadingRows.{mark_put}
use Rattle.mds_registers.proofs.readings.write_mark.Goals as goal

pub returns : goal.returns
returns c =
    let mark = c.args.mark.now in
    on_ok_weaker c.write_reason.result
    (mark_put _ _ _ _ (quality_text mark.quality) (code_text mark.reason.code) mark.reason.text
    (plain_quality mark.quality c.letters-count.ensures.known) c.letters-count.ensures.text c.in_ok-extend_from_slice.ensures.items)
    c.write_reason.ensures

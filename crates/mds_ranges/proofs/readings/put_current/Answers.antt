use Rattle.std.proofs.Common.{◌++◌, ◌∷◌, ◌∙◌, [], None, ap}
use Rattle.std.proofs.lemmas.Result.{on_ok_weaker}
use Rattle.mds_marks.specs.Reading.{ReadingValue}
use Rattle.mds_marks.specs.declared.mark.Mark.{Mark}
use Rattle.mds_world.specs.Current.{no_reading}
use Rattle.mds_ranges.proofs.readings.put_current.Goals as goal

abbrev without : Mark → ReadingValue
without mark = record { mark = mark; value = None }

pub returns-in_default : goal.returns-in_default
returns-in_default c =
    on_ok_weaker c.push.result
    (λ is. (no_reading, is ∙ ap (λ m. c.args.readings.now ++ without m ∷ []) c.bare_null.ensures, c.in_default.ensures.reading))
    c.push.ensures

pub returns : goal.returns
returns c =
    on_ok_weaker c.push-2.result (λ is. (_, is, c.in-Some.ensures.reading)) c.push-2.ensures

use Rattle.std.proofs.Common.{◌≡◌, ◌+◌, ◌<◌, ◌++◌, ◌∷◌, ◌∙◌, [], ℕ, List, length, take, get_or, ap, sym, arith}
use Rattle.std.proofs.lemmas.List.{take_all, take_more}
use Rattle.mds_marks.specs.Reading.{ReadingValue}
use Rattle.mds_runs.proofs.day_readings.DayReadings.to_vec.Goals as goal

-- one more reading
next : (readings kept new : List ReadingValue) (k : ℕ) (r : ReadingValue) → k < length readings → r ≡ get_or readings k r → kept ≡ take k readings
    → new ≡ kept ++ r ∷ [] → new ≡ take (k + 1) readings
next readings kept new k r lt is before after =
    after ∙ ap (λ l. l ++ r ∷ []) before ∙ ap (λ x. take k readings ++ x ∷ []) is ∙ sym (take_more readings k r lt)

pub loop-at-preserved : goal.loop-at-preserved
loop-at-preserved c =
    let r = c.in_ok-reading.field-0 in
    next c.args.self.now _ _ c.loop-at.at r (omega arith) (c.in_ok-reading.ensures.value r) c.loop-at.invariant c.in_ok-push.ensures.items

pub returns-clause-value : goal.returns-clause-value
returns-clause-value c = c.loop-at.invariant ∙ take_all c.loop-at.at c.args.self.now (omega arith)

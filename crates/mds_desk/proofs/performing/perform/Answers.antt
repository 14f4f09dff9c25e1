use Rattle.std.proofs.Common.{◌≡◌, ◌∙◌, sym, [], ◌∷◌}
use Rattle.mds_desk.proofs.Requested.{did, if_done, if_failed, only_answer, told_as}
use Rattle.mds_desk.proofs.performing.perform.Goals as goal

pub returns-clause-done : goal.returns-clause-done
returns-clause-done g c =
    let told : c.in-Ok.answers.items ≡ c.answer-item.result ∷ [] =
    sym c.as_slice.ensures.value
    ∙ only_answer c.as_slice.result.now c.answer-item.result c.in-len1.len_at_least c.in-len1.len_below c.answer-item.is in
    if_done c.print_answer.result _ _ (λ status printed. (
      printed.0,
      told_as _ _ _ printed.2 (did _ _ _ _ c.from_ref.ensures.value told c.in-Ok.ensures.run),
      printed.4,
      printed.1,
      printed.3,
      printed.5,
    )) c.print_answer.ensures.done

pub returns-clause-part : goal.returns-clause-part
returns-clause-part g c failed =
    let told : c.in-Ok.answers.items ≡ c.answer-item.result ∷ [] =
    sym c.as_slice.ensures.value
    ∙ only_answer c.as_slice.result.now c.answer-item.result c.in-len1.len_at_least c.in-len1.len_below c.answer-item.is in
    let printed = if_failed c.print_answer.result _ _ failed c.print_answer.ensures.part in (
      printed.1,
      told_as _ _ _ printed.3 (did _ _ _ _ c.from_ref.ensures.value told c.in-Ok.ensures.run),
      printed.2,
      printed.4,
      printed.5,
      printed.6,
      printed.7,
    )

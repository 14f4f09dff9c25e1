use Rattle.std.proofs.Common.{◌∙◌, inr, refl}
use Rattle.mds_messages.specs.declared.answer.Answer.TheVariants as told
use Rattle.mds_desk.proofs.Requested.{if_done, if_not_done}
use Rattle.mds_desk.proofs.performing.print_answer.Goals as goal

pub returns-in-Err-clause-done : goal.returns-in-Err-clause-done
returns-in-Err-clause-done g c =
    let line = c.as_bytes.ensures.value ∙ c.as_str.ensures.value ∙ c.unavailable_line.ensures in
    if_done c.print_text-in-Err.result _ _ (λ status printed. (
      told.Unavailable,
      c.as_bytes.result.now,
      inr (c.in-Err.ensures.memory, refl),
      line,
      printed.0,
      printed.1,
    )) c.print_text-in-Err.ensures.done

pub returns-in-Err-clause-part : goal.returns-in-Err-clause-part
returns-in-Err-clause-part g c =
    let line = c.as_bytes.ensures.value ∙ c.as_str.ensures.value ∙ c.unavailable_line.ensures in
    if_not_done c.print_text-in-Err.result _ _ (λ fault printed. (
      printed.0,
      told.Unavailable,
      c.as_bytes.result.now,
      inr (c.in-Err.ensures.memory, refl),
      line,
      printed.1,
      printed.2,
      printed.3,
    )) c.print_text-in-Err.ensures.part

use Rattle.std.proofs.Common.{[], refl, ap, ◌∙◌}
use Rattle.std.proofs.lemmas.Result.{on_ok_weaker}
use Rattle.mds_calendar.specs.Calendar.{day_of}
use Rattle.mds_terms.proofs.Texts.{day_is_digits}
use Rattle.mds_answers.proofs.Texts.{present_day}
use Rattle.mds_answers.proofs.told.send_optional_day.Goals as goal

pub digits_text-requires : goal.digits_text-requires
digits_text-requires g c = day_is_digits c.digits.result _ c.digits.ensures

pub returns-in-Some : goal.returns-in-Some
returns-in-Some g c =
    let text = c.digits_text.result.now in
    rw c.in-Some.is (on_ok_weaker c.send_text.result (λ sent. (
      text,
      present_day text c.in-Some.day (ap day_of c.digits_text.ensures ∙ c.digits.ensures),
      sent,
    )) c.send_text.ensures)

pub returns-in-None : goal.returns-in-None
returns-in-None g c =
    rw c.in-None.is (on_ok_weaker c.send_text-in-None.result (λ sent. ([], refl, sent)) c.send_text-in-None.ensures)

use Rattle.std.proofs.Common.{[], refl, ap, ◌∙◌}
use Rattle.std.proofs.lemmas.Result.{on_ok_weaker}
use Rattle.mds_calendar.specs.Calendar.{moment_of}
use Rattle.mds_terms.proofs.Texts.{moment_is_digits}
use Rattle.mds_answers.proofs.Texts.{present_moment}
use Rattle.mds_answers.proofs.days.send_optional_moment.Goals as goal

pub digits_text-requires : goal.digits_text-requires
digits_text-requires g c = moment_is_digits c.digits.result _ c.digits.ensures

pub returns-in-Some : goal.returns-in-Some
returns-in-Some g c =
    let text = c.digits_text.result.now in
    rw c.in-Some.is (on_ok_weaker c.str.result (λ sent. (
      text,
      present_moment text c.in-Some.moment (ap moment_of c.digits_text.ensures ∙ c.digits.ensures),
      sent,
    )) c.str.ensures)

pub returns-in-None : goal.returns-in-None
returns-in-None g c = rw c.in-None.is (on_ok_weaker c.str-in-None.result (λ sent. ([], refl, sent)) c.str-in-None.ensures)

use Rattle.std.proofs.Common.{◌++◌, ◌∙◌, ap, arith, string_bytes}
use Rattle.std.proofs.lemmas.Result.{on_ok_weaker}
use Rattle.mds_calendar.proofs.Moments.{one_moment_text}
use Rattle.mds_terms.proofs.Texts.{moment_is_digits}
use Rattle.mds_nem13.proofs.Apart.{digits_apart, pushed}
use Rattle.mds_nem13.proofs.content.push_moment.Goals as goal

pub returns : goal.returns
returns c = λ text is.
    let comma = c.in_ok-push.ensures.bytes ∙ ap (λ t. string_bytes c.args.out.now ++ t) (c.in_ok-push.ensures.ascii (omega arith)) in
    on_ok_weaker c.write_to.result
    (λ d. pushed _ _ _ text comma (d.2 ∙ ap (λ t. string_bytes c.push.new.self ++ t) (one_moment_text d.0 text _ d.1 is)) (digits_apart text (moment_is_digits text _ is)))
    c.write_to.ensures.done

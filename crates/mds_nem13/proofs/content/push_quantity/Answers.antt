use Rattle.std.proofs.Common.{◌++◌, ◌∙◌, ap, arith, string_bytes}
use Rattle.std.proofs.lemmas.Result.{on_ok_weaker}
use Rattle.mds_nem13.proofs.Apart.{pushed, small_quantity, written_apart}
use Rattle.mds_nem13.proofs.content.push_quantity.Goals as goal

pub returns : goal.returns
returns c = λ text is.
    let comma = c.in_ok-push.ensures.bytes ∙ ap (λ t. string_bytes c.args.out.now ++ t) (c.in_ok-push.ensures.ascii (omega arith)) in
    on_ok_weaker c.write_to.result (λ e. pushed _ _ _ _ comma e (written_apart c.args.quantity (small_quantity text _ is))) c.write_to.ensures.done

use Rattle.std.proofs.Common.{◌∙◌, ◌∷◌, List, [], ℕ, ap, subst, string_bytes, sym}
use Rattle.std.proofs.lemmas.Result.{on_ok_weaker}
use Rattle.mds_marks.specs.Reason.{code_text, is_code}
use Rattle.mds_nem13.specs.BuilderSteps.{AppendsEach, IsApart}
use Rattle.mds_nem13.proofs.Apart.{code_bound, decimal_apart}
use Rattle.mds_nem13.proofs.content.push_code.Goals as goal

pub returns-in-Some : goal.returns-in-Some
returns-in-Some c =
    let number = c.in-Some.number in
    let bound = code_bound number (ap is_code (sym c.in-Some.is) ∙ c.requires) in
    let is = c.format.ensures.text ∙ sym (ap code_text c.in-Some.is) in
    on_ok_weaker c.push_text.result
    (subst (λ (t : List ℕ). AppendsEach (string_bytes c.args.out.now) (string_bytes c.push_text.new.out) (t ∷ [])) is)
    (c.push_text.ensures (subst IsApart (sym c.format.ensures.text) (decimal_apart number bound)))

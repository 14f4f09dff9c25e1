use Rattle.std.proofs.Common.{◌∙◌, ◌∷◌, List, [], ℕ, None, Option, ap, subst, string_bytes, sym, unwrap_or}
use Rattle.std.proofs.lemmas.Result.{on_ok_weaker}
use Rattle.std.specs.Option.{option_map}
use Rattle.mds_marks.specs.Quality.{QualityValue, quality_text}
use Rattle.mds_marks.specs.Reason.{code_text}
use Rattle.mds_nem13.specs.BuilderSteps.{AppendsEach, IsApart}
use Rattle.mds_nem13.proofs.Apart.{each_more, printable_pushed, reason_parts, text_apart}
use Rattle.mds_nem13.proofs.content.write_read.Goals as goal

pub returns : goal.returns
returns c = λ reading moment quality code text s.
    let parts = reason_parts code text _ s.reason_is in
    let shown = printable_pushed _ _ _ _ reading c.text.ensures.value c.text.ensures.printable s.reading_is c.in_ok-push_text.ensures in
    let read_at = c.in_ok-push_moment.ensures moment s.moment_is in
    let graded = subst (λ (o : Option QualityValue).
    AppendsEach (string_bytes c.push_moment.new.out) (string_bytes c.push_quality.new.out) (unwrap_or (option_map quality_text o) [] ∷ []))
    (sym s.quality_is) c.in_ok-push_quality.ensures in
    let coded = subst (λ (t : List ℕ). AppendsEach (string_bytes c.push_quality.new.out) (string_bytes c.push_code.new.out) (t ∷ []))
    (ap code_text c.code.ensures.value ∙ sym (ap (λ o. code_text (unwrap_or o None)) parts.0)) c.in_ok-push_code.ensures in
    let front = each_more _ _ _ _ _ (each_more _ _ _ _ _ (each_more _ _ _ _ _ shown read_at) graded) coded in
    let same = c.text-2.ensures ∙ parts.1 in
    on_ok_weaker c.push_text-2.result
    (λ p. each_more _ _ _ _ _ front (subst (λ (t : List ℕ). AppendsEach (string_bytes c.push_code.new.out) (string_bytes c.push_text-2.new.out) (t ∷ [])) same p))
    (c.push_text-2.ensures (subst IsApart (sym same) (text_apart text parts.2)))

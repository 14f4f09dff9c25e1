use Rattle.std.proofs.Common.{◌≡◌, ◌∙◌, ◌∷◌, List, [], ℕ, Result, Ok, Err, MatchResult, ap, subst, string_bytes, sym, unwrap_or}
use Rattle.std.proofs.lemmas.Result.{on_ok_weaker}
use Rattle.std.specs.Option.{option_map}
use Rattle.std.specs.Str.{IsUtf8}
use Rattle.mds_marks.proofs.Pieces.{ok_from}
use Rattle.mds_marks.proofs.Qualities.{quality_utf8}
use Rattle.mds_marks.specs.Quality.{quality_text}
use Rattle.mds_nem13.specs.BuilderSteps.{AppendsEach, IsApart}
use Rattle.mds_nem13.proofs.Apart.{quality_apart}
use Rattle.mds_nem13.proofs.content.push_quality.Goals as goal

pub unwrap-requires : goal.unwrap-requires
unwrap-requires c =
    let utf8 = subst IsUtf8 (sym c.letters-count.ensures.text) (quality_utf8 c.in-Some.quality c.letters-count.ensures.known) in
    ok_from c.from_utf8.result _ _ c.from_utf8.ensures.cases (λ e q. q.0 utf8)

-- what a success is
at_ok : {T E : Type 0} (r : Result T E) (x : T) (P : T → Type 0) (Q : E → Type 0) → r ≡ Ok x → MatchResult r P Q → P x
at_ok (Ok y) x P Q e h = let same : y ≡ x = cc in subst P same h
at_ok (Err y) x P Q e h = absurd (cc)

pub returns-in-Some : goal.returns-in-Some
returns-in-Some c =
    let quality = c.in-Some.quality in
    let text = (at_ok _ _ _ _ c.unwrap.ensures c.from_utf8.ensures.cases).0 ∙ c.letters-count.ensures.text in
    let is = text ∙ sym (ap (λ o. unwrap_or (option_map quality_text o) []) c.in-Some.is) in
    on_ok_weaker c.push_text.result
    (subst (λ (t : List ℕ). AppendsEach (string_bytes c.args.out.now) (string_bytes c.push_text.new.out) (t ∷ [])) is)
    (c.push_text.ensures (subst IsApart (sym text) (quality_apart quality c.letters-count.ensures.known)))

use Rattle.std.proofs.Common.{◌≡◌, ℕ, Bool, ◌||◌, List, [], ◌∷◌, Bor, map, bytes_eq, rules, tests, refl, ◌∙◌, ap}
use Rattle.std.proofs.lemmas.Iterator.{YieldsList-from_slice}
use Rattle.std.proofs.lemmas.Iterator.Search.{any_from_yields_List}
use Rattle.std.specs.List.{list_any}
use Rattle.mds_requests.proofs.query.is_one_of.Goals as goal

any_of : (p : List ℕ → Bool) (texts : List (Bor (List ℕ))) → list_any (λ text. p text.now) texts ≡ list_any p (map (λ text. text.now) texts)
any_of p [] = refl
any_of p (text ∷ texts) = ap (λ found. p text.now || found) (any_of p texts)

pub returns : goal.returns
returns c =
    let name = c.args.name.now in
    let names = c.args.names.now in
    any_from_yields_List (λ (known : Bor (List ℕ)). bytes_eq name known.now) _ _ _ c.any.ensures.ran (YieldsList-from_slice names cc) (λ x b q k. search (rules, tests))
    ∙ any_of (bytes_eq name) names

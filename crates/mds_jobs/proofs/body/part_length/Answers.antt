use Rattle.std.proofs.Common.{◌≡◌, ℕ, ◌≤◌, Some, None, cond, ltb, arith, rules, tests, not, ◌∙◌, ap, unwrap_or, length}
use Rattle.std.proofs.lemmas.Iterator.{YieldsList-from_slice}
use Rattle.std.proofs.lemmas.Iterator.Search.{position_from_yields_List}
use Rattle.std.proofs.lemmas.List.Sums.{prefix_len-le-length}
use Rattle.mds_names.specs.Names.{is_comma}
use Rattle.mds_jobs.proofs.body.part_length.Goals as goal

or_all : (p n : ℕ) → p ≤ n → unwrap_or (cond (ltb p n) (Some p) None) n ≡ p
or_all p n le = grind (arith, tests)

pub returns-clause-value : goal.returns-clause-value
returns-clause-value c =
    let text = c.args.text.now in
    let found = position_from_yields_List is_comma _ _ _ c.position.ensures.ran (YieldsList-from_slice text cc) (λ x b q k. search (rules, tests)) in
    c.unwrap_or.ensures ∙ ap (λ o. unwrap_or o (length text)) found ∙ or_all _ (length text) (prefix_len-le-length (λ x. not (is_comma x)) text)

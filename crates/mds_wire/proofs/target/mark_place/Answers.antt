use Rattle.std.proofs.Common.{◌==◌, not, rules, tests, ◌∙◌, ap, unwrap_or, length}
use Rattle.std.proofs.lemmas.Iterator.{YieldsList-from_slice}
use Rattle.std.proofs.lemmas.Iterator.Search.{position_from_yields_List}
use Rattle.std.proofs.lemmas.List.Sums.{prefix_len-le-length}
use Rattle.mds_wire.proofs.Finds.{or_all}
use Rattle.mds_wire.proofs.target.mark_place.Goals as goal

pub returns-clause-value : goal.returns-clause-value
returns-clause-value c =
    let text = c.args.target.now in
    let found = position_from_yields_List (λ x. x == 63) _ _ _ c.position.ensures.ran (YieldsList-from_slice text cc) (λ x b q k. search (rules, tests)) in
    let is = c.unwrap_or.ensures ∙ ap (λ o. unwrap_or o (length text)) found ∙ or_all _ (length text) (prefix_len-le-length (λ x. not (x == 63)) text) in
    is

pub returns-clause-within : goal.returns-clause-within
returns-clause-within c = rw (returns-clause-value c) (prefix_len-le-length (λ x. not (x == 63)) c.args.target.now)

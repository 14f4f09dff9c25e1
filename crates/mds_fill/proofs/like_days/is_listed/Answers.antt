use Rattle.std.proofs.Common.{◌==◌, rules, tests}
use Rattle.std.proofs.lemmas.Int.{ints}
use Rattle.std.proofs.lemmas.Iterator.{YieldsList-from_slice}
use Rattle.std.proofs.lemmas.Iterator.Search.{any_from_yields_List}
use Rattle.mds_fill.proofs.LikeDays.{is_member}
use Rattle.mds_fill.proofs.like_days.is_listed.Goals as goal

pub returns : goal.returns
returns c =
    is_member c.any.result c.args.day c.args.days.now
    (any_from_yields_List (λ other. other == c.args.day) _ _ _ c.any.ensures.ran (YieldsList-from_slice c.args.days.now cc)
    (λ x b q k. search (rules, tests, ints)))

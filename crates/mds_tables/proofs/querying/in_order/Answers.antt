use Rattle.std.proofs.Common.{◌≡◌, subst, sym}
use Rattle.std.proofs.lemmas.Iterator.{items_from_collect}
use Rattle.std.proofs.lemmas.Iterator.Consumers.{YieldsList-from_rest}
use Rattle.std.specs.List.{AllPairs}
use Rattle.std.specs.declared.cmp.Ordering.TheVariants.{Less}
use Rattle.mds_world.specs.Lists.{Apart}
use Rattle.mds_tables.proofs.Adding.{ascends, once}
use Rattle.mds_tables.proofs.querying.in_order.Goals as goal

pub returns-clause-ascending : goal.returns-clause-ascending
returns-clause-ascending g c =
    let keys = c.args.found.keys in
    let given = c.into_iter.ensures.into_iter_gives in
    let all : c.in_ok-all.all.items ≡ keys =
    rw c.in_ok-all.was at (items_from_collect c.collect.result c.collect.ensures.ran (YieldsList-from_rest keys given.0)) in
    subst (λ ks. AllPairs (λ a b. g.T.Ord.cmp a b ≡ Less) ks) (sym all) (ascends g.met.T.Ord.total keys given.4)

pub returns-clause-apart : goal.returns-clause-apart
returns-clause-apart g c =
    let keys = c.args.found.keys in
    let given = c.into_iter.ensures.into_iter_gives in
    let all : c.in_ok-all.all.items ≡ keys =
    rw c.in_ok-all.was at (items_from_collect c.collect.result c.collect.ensures.ran (YieldsList-from_rest keys given.0)) in
    subst Apart (sym all) (once g.met.T.Ord.total keys given.4)

use Rattle.std.proofs.Common.{IsTrue, get_or, rules}
use Rattle.mds_commit.proofs.UnitAsking.{asked_so, asked_then, say_like}
use Rattle.mds_commit.proofs.units.have_batch.Goals as goal

pub returns-then-branch-clause-asks : goal.returns-then-branch-clause-asks
returns-then-branch-clause-asks g c =
    let alike : IsTrue c.are_like.result = search rules in
    asked_so c.in_ok-has_only.ensures.asks tt (λ trees says. say_like (get_or c.args.heads.now 0 c.index-heads-0.result) _ c.args.heads.now (c.are_like.ensures alike) trees (says c.if-branch.true))

pub returns-clause-asks : goal.returns-clause-asks
returns-clause-asks g c = asked_then c.in_ok-has_only.ensures.asks (λ _ trees _ says. says) c.have_each-2.ensures.asks

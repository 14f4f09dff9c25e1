use Rattle.std.proofs.Common.{◌<◌, ◌^◌, arith, subst, take, take_all}
use Rattle.std.specs.List.{AllByRecursion}
use Rattle.mds_world.specs.declared.facts.Head.{Head}
use Rattle.mds_tables.proofs.PutLemmas.{one_more}
use Rattle.mds_commit.proofs.UnitAsking.{days_more}
use Rattle.mds_commit.proofs.units.are_days.Goals as goal

pub loop-head-preserved : goal.loop-head-preserved
loop-head-preserved c =
    let heads = c.args.heads.now in
    let at = c.loop-head.head-index in
    let head = c.head-item.result in
    subst (λ hs. AllByRecursion (λ (h : Head). h.day < 2 ^ 63) hs) (one_more heads at head (omega arith) c.head-item.is)
    (days_more (take at heads) head c.loop-head.invariant (omega (arith, c.number.ensures.last)))

pub returns : goal.returns
returns c =
    subst (λ hs. AllByRecursion (λ (h : Head). h.day < 2 ^ 63) hs) (take_all c.loop-head.head-index c.args.heads.now (omega arith)) c.loop-head.invariant

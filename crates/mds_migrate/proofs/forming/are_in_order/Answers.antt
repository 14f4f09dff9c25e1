use Rattle.std.proofs.Common.{arith}
use Rattle.mds_migrate.proofs.FormingLemmas.{all_rise, one_more}
use Rattle.mds_migrate.proofs.forming.are_in_order.Goals as goal

pub loop-k-init : goal.loop-k-init
loop-k-init c k d low = absurd (omega (arith, low))

pub loop-k-preserved : goal.loop-k-preserved
loop-k-preserved c =
    one_more c.args.rows.now c.loop-k.k c.index-rows-k.result c.index-rows-k-in-loop-k.result c.loop-k.auto.k c.loop-k.invariant
    c.index-rows-k.is c.index-rows-k-in-loop-k.is (c.is_before-is_next.ensures c.if-not-is_next.false) c.loop-k-test.true

pub returns : goal.returns
returns c sorted = all_rise c.args.rows.now (λ k d low. c.loop-k.invariant k d (omega (arith, low, c.loop-k-test.false)))

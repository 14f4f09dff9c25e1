use Rattle.std.proofs.Common.{arith}
use Rattle.mds_memory.specs.StoredDetails.{details_world}
use Rattle.mds_memory.proofs.DetailsBetween.{done, more}
use Rattle.mds_memory.proofs.stored_details.details_between.Goals as goal

pub loop-number-preserved : goal.loop-number-preserved
loop-number-preserved c =
    let from = c.number_of-number.ensures.value in
    let upto = c.number_of-number-end.ensures.value in
    let low = c.loop-number.auto.number in
    let high = c.loop-number-test.true in
    more (details_world c.args.kept.now) c.args.stream.now c.args.first c.args.last _ _ _ c.in-Some.day
    c.in_ok-details.details c.loop-number.invariant (omega (arith, from, low)) (omega (arith, upto, high))
    c.in-Some.ensures.1 c.in_ok-details.ensures c.in_ok-push.ensures.items

pub returns : goal.returns
returns c =
    let upto = c.number_of-number-end.ensures.value in
    let past = c.loop-number-test.false in
    done (details_world c.args.kept.now) c.args.stream.now c.args.first c.args.last _ _ c.loop-number.invariant
    (omega (arith, upto, past))

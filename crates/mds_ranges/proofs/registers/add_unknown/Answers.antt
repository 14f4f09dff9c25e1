use Rattle.std.proofs.Common.{◌+◌, ◌-◌, arith}
use Rattle.mds_ranges.proofs.Ranged.{whole_more}
use Rattle.mds_ranges.proofs.registers.add_unknown.Goals as goal

pub loop-number-preserved : goal.loop-number-preserved
loop-number-preserved c =
    let i = c.loop-number.invariant in
    let low = c.loop-number.auto.number in
    let less = c.loop-number-test.true in
    record {
      within = omega (arith, low, less, i.within);
      rows = whole_more c.args.first (c.loop-number.number - c.args.first) (c.loop-number.number + 1 - c.args.first) c.in-Some.day _ _ _ i.rows
          (omega (arith, low)) (let same = c.in-Some.ensures.1 in omega (arith, low, same)) c.in_ok-push.ensures.items;
    }

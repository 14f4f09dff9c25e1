use Rattle.std.proofs.Common.{subst}
use Rattle.std.proofs.lemmas.List.{take_all}
use Rattle.std.specs.Cmp.{nat_cmp_total}
use Rattle.std.specs.FinSet.{nat_cmp-IsAntisymmetric}
use Rattle.std.specs.Ordering.{nat_cmp}
use Rattle.mds_memory.proofs.Keys.{AreWithout, out_more, removed}
use Rattle.mds_memory.proofs.stored_details.remove_days.Goals as goal

pub loop-day-preserved : goal.loop-day-preserved
loop-day-preserved c =
    out_more _ c.loop-day.days.keys c.remove.new.self.keys _ _ _ c.loop-day-test.true c.day-item.is c.loop-day.invariant
    (removed nat_cmp nat_cmp-IsAntisymmetric nat_cmp_total c.loop-day.days c.remove.new.self _ c.remove.ensures.updates.0)

pub returns : goal.returns
returns c =
    subst (AreWithout c.loop-day.days.keys c.args.days.now.keys)
    (take_all c.loop-day.day-index c.args.some.now c.loop-day-test.false) c.loop-day.invariant

use Rattle.std.proofs.Common.{subst, sym, take}
use Rattle.std.proofs.lemmas.List.{take_all}
use Rattle.std.specs.Cmp.{nat_cmp_total}
use Rattle.std.specs.FinSet.{nat_cmp-IsAntisymmetric}
use Rattle.std.specs.Ordering.{nat_cmp}
use Rattle.mds_memory.proofs.Keys.{AreWith, as_before, in_more, in_take, inserted}
use Rattle.mds_memory.proofs.stored_details.add_days.Goals as goal

pub returns-in_default-clause-err : goal.returns-in_default-clause-err
returns-in_default-clause-err c =
    as_before c.args.days.now.keys c.insert.new.self.keys c.remove_days.new.days.keys (take c.loop-i.i c.args.more.now)
    (subst (λ ks. AreWith ks c.args.days.now.keys (take c.loop-i.i c.args.more.now)) (sym c.in_default.ensures.err)
    c.loop-i.invariant) c.remove_days.ensures (λ q m. c.requires q (in_take c.loop-i.i c.args.more.now q m))

pub loop-i-preserved : goal.loop-i-preserved
loop-i-preserved c =
    in_more _ c.loop-i.days.keys c.insert.new.self.keys _ _ _ c.loop-i-test.true c.index-more-i.is c.loop-i.invariant
    (inserted nat_cmp nat_cmp-IsAntisymmetric nat_cmp_total c.loop-i.days c.insert.new.self _ c.in-Ok.ensures.updates.0)

pub returns-clause-ok : goal.returns-clause-ok
returns-clause-ok c =
    subst (AreWith c.loop-i.days.keys c.args.days.now.keys) (take_all c.loop-i.i c.args.more.now c.loop-i-test.false)
    c.loop-i.invariant

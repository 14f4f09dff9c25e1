use Rattle.std.proofs.Common.{subst}
use Rattle.std.proofs.lemmas.List.{take_all}
use Rattle.mds_commit.specs.Shown.{AreLeft}
use Rattle.mds_commit.proofs.DaysLeft.{more_taken, none_taken}
use Rattle.mds_commit.proofs.querying.take_shown.Goals as goal

pub loop-i-init : goal.loop-i-init
loop-i-init c = none_taken _

pub loop-i-preserved : goal.loop-i-preserved
loop-i-preserved c =
    more_taken _ _ c.take_day.new.left.keys c.args.rows.now c.loop-i.i c.index-rows-i.result c.loop-i-test.true
    c.index-rows-i.is c.loop-i.invariant c.in_ok-take_day.ensures

pub returns : goal.returns
returns c =
    subst (λ rows. AreLeft c.args.left.now.keys rows c.loop-i.left.keys) (take_all c.loop-i.i c.args.rows.now c.loop-i-test.false) c.loop-i.invariant

use Rattle.std.proofs.Common.{subst, sym}
use Rattle.mds_world.specs.Lists.{Member}
use Rattle.mds_commit.proofs.UnitAsking.{asked_so, say_shown}
use Rattle.mds_commit.proofs.units.has_only.Goals as goal

pub returns-clause-asks : goal.returns-clause-asks
returns-clause-asks g c =
    let first = c.args.first.now in
    asked_so c.in_ok-rows.ensures.asks c.say_only.result (λ trees shown yes.
    say_shown first.stream first.day c.args.last first.unit c.in_ok-rows.rows.items trees
    (λ row m. c.say_only.ensures yes row (subst (λ rows. Member row rows) (sym c.deref.ensures.value) m)) shown)

use Rattle.std.proofs.Common.{◌≢◌, rules, sym, ap, ◌∙◌}
use Rattle.mds_keeper.proofs.ClaimedEntries.{found, missed}
use Rattle.mds_keeper.proofs.Rows.{same_some}
use Rattle.mds_keeper.proofs.claimed.ClaimedUpdates.get.Goals as goal
use Rattle.mds_keeper.proofs.claimed.ClaimedUpdates.get.Goals.{in-Some+else-eq, in_default}

pub returns-clause-some : goal.returns-clause-some
returns-clause-some c = found _ _ _ c.self.view_is _ _ c.seconds.ensures.order c.get.result c.get.ensures.value

pub returns-clause-none : goal.returns-clause-none
returns-clause-none c =
    missed _ _ _ c.self.view_is _ _ c.seconds.ensures.order (elim c.match-self.branch [
      | in-Some+else-eq w ↦ λ f is same.
          let apart : w.in-Some.first.update ≢ c.args.update = search (rules, w.if-eq.false, w.eq.ensures) in
          apart (ap (λ x. x.update) (same_some w.in-Some.first f (sym w.in-Some.is ∙ is)) ∙ same)
      | in_default w ↦ λ f is same. absurd (w.in_default.not-Some f is)
    ]) c.get.result c.get.ensures.value

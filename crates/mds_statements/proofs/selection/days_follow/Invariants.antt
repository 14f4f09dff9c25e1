use Rattle.std.proofs.Common.{◌≡◌, drop, None, option_map}
use Rattle.mds_statements.specs.SelectedSteps.{days_follow}
use Rattle.mds_statements.proofs.selection.days_follow.Given as goal

abbrev pub invariant-loop-day : goal.invariant-loop-day
invariant-loop-day l =
    days_follow None l.days ≡ days_follow (option_map (λ last. last.now) l.last) (drop l.day-index l.days)

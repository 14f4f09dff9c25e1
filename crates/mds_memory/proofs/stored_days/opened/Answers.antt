use Rattle.std.proofs.Common.{sym, subst, None}
use Rattle.mds_memory.specs.Stored.{days_world}
use Rattle.mds_memory.specs.StoredSteps.{AreChanged}
use Rattle.mds_memory.proofs.Places.{if_ok_map}
use Rattle.mds_memory.proofs.stored_days.opened.Goals as goal
use Rattle.mds_memory.proofs.stored_days.opened.Goals.{After-taken, in-Some+else-eq+in_ok-close, in_default}

closed_now : (c : After-taken) → (more : _) → AreChanged (days_world c.args.days.now) more c.args.closed.now c.args.in_hand
    → AreChanged (days_world c.args.days.now) more c.match-in_hand.closed None
closed_now c more a =
    elim c.match-in_hand.branch [
      | in-Some+else-eq+in_ok-close w ↦
          subst (λ m. AreChanged (days_world c.args.days.now) more m None) (sym w.closed-is) (w.in_ok-close.ensures _ more
          (subst (λ h. AreChanged (days_world c.args.days.now) more c.args.closed.now h) w.in-Some.is a))
      | in_default w ↦
          subst (λ m. AreChanged (days_world c.args.days.now) more m None) (sym w.closed-is)
          (subst (λ h. AreChanged (days_world c.args.days.now) more c.args.closed.now h) w.in_default.is a)
    ]

pub returns-clause-changed : goal.returns-clause-changed
returns-clause-changed c =
    if_ok_map c.taken.result _ _ (λ hand h. λ more a. h more (closed_now c more a)) c.taken.ensures.changed

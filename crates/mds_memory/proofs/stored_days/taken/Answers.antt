use Rattle.std.proofs.Common.{sym, subst, Some}
use Rattle.mds_memory.specs.Stored.{days_world}
use Rattle.mds_memory.specs.StoredSteps.{AreChanged}
use Rattle.mds_memory.proofs.Changed.{changed_again, changed_first}
use Rattle.mds_memory.proofs.stored_days.taken.Goals as goal
use Rattle.mds_memory.proofs.stored_days.taken.Goals.{in-Some, in-None+in_ok-rows-in-None}

pub returns-clause-changed : goal.returns-clause-changed
returns-clause-changed c = λ more a.
    elim c.match-remove.branch [
      | in-Some w ↦
          subst (λ rows. AreChanged (days_world c.args.days.now) more c.remove.new.self (Some (record { place = c.args.place.now; rows = rows })))
          (sym w.rows-is)
          (changed_again (days_world c.args.days.now) more c.args.closed.now c.remove.new.self c.args.place.now w.in-Some.rows
          c.remove.ensures.updates.0 c.remove.ensures.ordered (sym w.in-Some.ensures.value) a)
      | in-None+in_ok-rows-in-None w ↦
          subst (λ rows. AreChanged (days_world c.args.days.now) more c.remove.new.self (Some (record { place = c.args.place.now; rows = rows })))
          (sym w.rows-is)
          (changed_first (days_world c.args.days.now) more c.args.closed.now c.remove.new.self c.args.place.now w.in_ok-rows-in-None.rows
          c.remove.ensures.updates.0 c.remove.ensures.ordered (sym w.in-None.ensures.value) w.in_ok-rows-in-None.ensures a)
    ]

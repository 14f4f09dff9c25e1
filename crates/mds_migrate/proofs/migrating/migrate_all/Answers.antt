use Rattle.std.proofs.Common.{subst, arith, ◌∙◌, inl}
use Rattle.sqlite.specs.Held.{state}
use Rattle.mds_migrate.specs.Migrated.{Answered}
use Rattle.mds_migrate.proofs.Chaining.{leaves_three, leaves_two, stopped_behind_one, stopped_behind_two, taken_all, current_all, leaves_one, still_current, taken_last}
use Rattle.mds_migrate.proofs.migrating.migrate_all.Goals as goal

pub returns-in-Ok-clause-taken : goal.returns-in-Ok-clause-taken
returns-in-Ok-clause-taken g c done clean =
    let a = state g.S.Store c.args.conn.now in
    let b = state g.S.Store c.next_step.new.conn in
    let mid = state g.S.Store c.next_step-in-Ok-Done.new.conn in
    let new = state g.S.Store c.next_step-in-Ok-Done-next_step.new.conn in
    let one = c.next_step-in-Ok-Done.ensures.survives.clean in
    let two = c.next_step-in-Ok-Done-next_step.ensures.survives.clean in
    taken_all a b mid new (subst (Answered a b) c.in-Ok-Done.field-0-is (c.in-Ok-Done.ensures.done (omega (arith, clean, one, two))))
    (subst (Answered b mid) c.in-Ok-Done-next_step.field-0-is (c.in-Ok-Done-next_step.ensures.done (omega (arith, clean, two))))
    c.in-Ok.field-0 (c.in-Ok.ensures.done clean)

pub returns-in-Err-next_step-2-clause-stopped : goal.returns-in-Err-next_step-2-clause-stopped
returns-in-Err-next_step-2-clause-stopped g c clean =
    let a = state g.S.Store c.args.conn.now in
    let b = state g.S.Store c.next_step.new.conn in
    let mid = state g.S.Store c.next_step-in-Ok-Done.new.conn in
    let new = state g.S.Store c.next_step-in-Ok-Done-next_step.new.conn in
    let one = c.next_step-in-Ok-Done.ensures.survives.clean in
    let two = c.next_step-in-Ok-Done-next_step.ensures.survives.clean in
    stopped_behind_two a b mid new (subst (Answered a b) c.in-Ok-Done.field-0-is (c.in-Ok-Done.ensures.done (omega (arith, clean, one, two))))
    (subst (Answered b mid) c.in-Ok-Done-next_step.field-0-is (c.in-Ok-Done-next_step.ensures.done (omega (arith, clean, two))))
    c.in-Err-next_step-2.fault c.in-Err-next_step-2.ensures.settled (c.in-Err-next_step-2.ensures.err clean)

pub returns-in-Err-next_step-clause-stopped : goal.returns-in-Err-next_step-clause-stopped
returns-in-Err-next_step-clause-stopped g c clean =
    let a = state g.S.Store c.args.conn.now in
    let b = state g.S.Store c.next_step.new.conn in
    let new = state g.S.Store c.next_step-in-Ok-Done.new.conn in
    let one = c.next_step-in-Ok-Done.ensures.survives.clean in
    stopped_behind_one a b new (subst (Answered a b) c.in-Ok-Done.field-0-is (c.in-Ok-Done.ensures.done (omega (arith, clean, one))))
    c.in-Err-next_step.fault c.in-Err-next_step.ensures.settled (c.in-Err-next_step.ensures.err clean)

pub returns-in-Ok-clause-survives : goal.returns-in-Ok-clause-survives
returns-in-Ok-clause-survives g c =
    let a = state g.S.Store c.args.conn.now in
    let b = state g.S.Store c.next_step.new.conn in
    let mid = state g.S.Store c.next_step-in-Ok-Done.new.conn in
    let new = state g.S.Store c.next_step-in-Ok-Done-next_step.new.conn in
    leaves_three a b mid new (λ clean. subst (Answered a b) c.in-Ok-Done.field-0-is (c.in-Ok-Done.ensures.done clean))
    (λ clean. subst (Answered b mid) c.in-Ok-Done-next_step.field-0-is (c.in-Ok-Done-next_step.ensures.done clean))
    c.next_step.ensures.survives c.next_step-in-Ok-Done.ensures.survives c.next_step-in-Ok-Done-next_step.ensures.survives

pub returns-in-Err-next_step-2-clause-survives : goal.returns-in-Err-next_step-2-clause-survives
returns-in-Err-next_step-2-clause-survives g c =
    let a = state g.S.Store c.args.conn.now in
    let b = state g.S.Store c.next_step.new.conn in
    let mid = state g.S.Store c.next_step-in-Ok-Done.new.conn in
    let new = state g.S.Store c.next_step-in-Ok-Done-next_step.new.conn in
    leaves_three a b mid new (λ clean. subst (Answered a b) c.in-Ok-Done.field-0-is (c.in-Ok-Done.ensures.done clean))
    (λ clean. subst (Answered b mid) c.in-Ok-Done-next_step.field-0-is (c.in-Ok-Done-next_step.ensures.done clean))
    c.next_step.ensures.survives c.next_step-in-Ok-Done.ensures.survives c.next_step-in-Ok-Done-next_step.ensures.survives

pub returns-in-Err-next_step-clause-survives : goal.returns-in-Err-next_step-clause-survives
returns-in-Err-next_step-clause-survives g c =
    let a = state g.S.Store c.args.conn.now in
    let b = state g.S.Store c.next_step.new.conn in
    let new = state g.S.Store c.next_step-in-Ok-Done.new.conn in
    leaves_two a b new (λ clean. subst (Answered a b) c.in-Ok-Done.field-0-is (c.in-Ok-Done.ensures.done clean))
    c.next_step.ensures.survives c.next_step-in-Ok-Done.ensures.survives

pub returns-in-Ok-clause-current : goal.returns-in-Ok-clause-current
returns-in-Ok-clause-current g c clean =
    let a = (state g.S.Store c.args.conn.now) in
    let b = (state g.S.Store c.next_step.new.conn) in
    let mid = (state g.S.Store c.next_step-in-Ok-Done.new.conn) in
    let new = (state g.S.Store c.next_step-in-Ok-Done-next_step.new.conn) in
    let one = c.next_step-in-Ok-Done.ensures.survives.clean in
    let two = c.next_step-in-Ok-Done-next_step.ensures.survives.clean in
    current_all a b mid new (subst (Answered a b) c.in-Ok-Done.field-0-is (c.in-Ok-Done.ensures.done (omega (arith, clean, one, two))))
    (subst (Answered b mid) c.in-Ok-Done-next_step.field-0-is (c.in-Ok-Done-next_step.ensures.done (omega (arith, clean, two))))
    c.in-Ok.field-0 (c.in-Ok.ensures.done clean)

pub returns-in-Ok-clause-same : goal.returns-in-Ok-clause-same
returns-in-Ok-clause-same g c = λ same. absurd cc

pub returns-in-Ok-clause-stopped : goal.returns-in-Ok-clause-stopped
returns-in-Ok-clause-stopped g c = tt

pub returns-in-Ok-clause-mode : goal.returns-in-Ok-clause-mode
returns-in-Ok-clause-mode g c = c.next_step-in-Ok-Done-next_step.ensures.mode ∙ (c.next_step-in-Ok-Done.ensures.mode ∙ c.next_step.ensures.mode)

pub returns-in-Err-next_step-2-clause-current : goal.returns-in-Err-next_step-2-clause-current
returns-in-Err-next_step-2-clause-current g c = tt

pub returns-in-Err-next_step-2-clause-same : goal.returns-in-Err-next_step-2-clause-same
returns-in-Err-next_step-2-clause-same g c = tt

pub returns-in-Err-next_step-2-clause-taken : goal.returns-in-Err-next_step-2-clause-taken
returns-in-Err-next_step-2-clause-taken g c = tt

pub returns-in-Err-next_step-2-clause-mode : goal.returns-in-Err-next_step-2-clause-mode
returns-in-Err-next_step-2-clause-mode g c = c.next_step-in-Ok-Done-next_step.ensures.mode ∙ (c.next_step-in-Ok-Done.ensures.mode ∙ c.next_step.ensures.mode)

pub returns-in-Ok-AlreadyCurrent-next_step-clause-current : goal.returns-in-Ok-AlreadyCurrent-next_step-clause-current
returns-in-Ok-AlreadyCurrent-next_step-clause-current g c clean =
    let b = (state g.S.Store c.next_step.new.conn) in
    let mid = (state g.S.Store c.next_step-in-Ok-Done.new.conn) in
    still_current b mid (subst (Answered b mid) c.in-Ok-AlreadyCurrent-next_step.field-0-is (c.in-Ok-AlreadyCurrent-next_step.ensures.done clean))

pub returns-in-Ok-AlreadyCurrent-next_step-clause-same : goal.returns-in-Ok-AlreadyCurrent-next_step-clause-same
returns-in-Ok-AlreadyCurrent-next_step-clause-same g c = λ same. absurd cc

pub returns-in-Ok-AlreadyCurrent-next_step-clause-taken : goal.returns-in-Ok-AlreadyCurrent-next_step-clause-taken
returns-in-Ok-AlreadyCurrent-next_step-clause-taken g c done clean =
    let a = (state g.S.Store c.args.conn.now) in
    let b = (state g.S.Store c.next_step.new.conn) in
    let mid = (state g.S.Store c.next_step-in-Ok-Done.new.conn) in
    let one = c.next_step-in-Ok-Done.ensures.survives.clean in
    taken_last a b mid (subst (Answered a b) c.in-Ok-Done.field-0-is (c.in-Ok-Done.ensures.done (omega (arith, clean, one))))
    (subst (Answered b mid) c.in-Ok-AlreadyCurrent-next_step.field-0-is (c.in-Ok-AlreadyCurrent-next_step.ensures.done clean))

pub returns-in-Ok-AlreadyCurrent-next_step-clause-stopped : goal.returns-in-Ok-AlreadyCurrent-next_step-clause-stopped
returns-in-Ok-AlreadyCurrent-next_step-clause-stopped g c = tt

pub returns-in-Ok-AlreadyCurrent-next_step-clause-mode : goal.returns-in-Ok-AlreadyCurrent-next_step-clause-mode
returns-in-Ok-AlreadyCurrent-next_step-clause-mode g c = c.next_step-in-Ok-Done.ensures.mode ∙ c.next_step.ensures.mode

pub returns-in-Ok-AlreadyCurrent-next_step-clause-survives : goal.returns-in-Ok-AlreadyCurrent-next_step-clause-survives
returns-in-Ok-AlreadyCurrent-next_step-clause-survives g c =
    let a = (state g.S.Store c.args.conn.now) in
    let b = (state g.S.Store c.next_step.new.conn) in
    let mid = (state g.S.Store c.next_step-in-Ok-Done.new.conn) in
    leaves_two a b mid (λ clean. subst (Answered a b) c.in-Ok-Done.field-0-is (c.in-Ok-Done.ensures.done clean))
    c.next_step.ensures.survives c.next_step-in-Ok-Done.ensures.survives

pub returns-in-Err-next_step-clause-current : goal.returns-in-Err-next_step-clause-current
returns-in-Err-next_step-clause-current g c = tt

pub returns-in-Err-next_step-clause-same : goal.returns-in-Err-next_step-clause-same
returns-in-Err-next_step-clause-same g c = tt

pub returns-in-Err-next_step-clause-taken : goal.returns-in-Err-next_step-clause-taken
returns-in-Err-next_step-clause-taken g c = tt

pub returns-in-Err-next_step-clause-mode : goal.returns-in-Err-next_step-clause-mode
returns-in-Err-next_step-clause-mode g c = c.next_step-in-Ok-Done.ensures.mode ∙ c.next_step.ensures.mode

pub returns-in-Ok-AlreadyCurrent-clause-current : goal.returns-in-Ok-AlreadyCurrent-clause-current
returns-in-Ok-AlreadyCurrent-clause-current g c clean =
    still_current (state g.S.Store c.args.conn.now) (state g.S.Store c.next_step.new.conn) (subst (Answered (state g.S.Store c.args.conn.now) (state g.S.Store c.next_step.new.conn)) c.in-Ok-AlreadyCurrent.field-0-is (c.in-Ok-AlreadyCurrent.ensures.done clean))

pub returns-in-Ok-AlreadyCurrent-clause-same : goal.returns-in-Ok-AlreadyCurrent-clause-same
returns-in-Ok-AlreadyCurrent-clause-same g c same clean =
    let is = subst (Answered (state g.S.Store c.args.conn.now) (state g.S.Store c.next_step.new.conn)) c.in-Ok-AlreadyCurrent.field-0-is (c.in-Ok-AlreadyCurrent.ensures.done clean) in
    (is.0, is.2)

pub returns-in-Ok-AlreadyCurrent-clause-taken : goal.returns-in-Ok-AlreadyCurrent-clause-taken
returns-in-Ok-AlreadyCurrent-clause-taken g c = λ done. absurd cc

pub returns-in-Ok-AlreadyCurrent-clause-stopped : goal.returns-in-Ok-AlreadyCurrent-clause-stopped
returns-in-Ok-AlreadyCurrent-clause-stopped g c = tt

pub returns-in-Ok-AlreadyCurrent-clause-mode : goal.returns-in-Ok-AlreadyCurrent-clause-mode
returns-in-Ok-AlreadyCurrent-clause-mode g c = c.next_step.ensures.mode

pub returns-in-Ok-AlreadyCurrent-clause-survives : goal.returns-in-Ok-AlreadyCurrent-clause-survives
returns-in-Ok-AlreadyCurrent-clause-survives g c = leaves_one (state g.S.Store c.args.conn.now) (state g.S.Store c.next_step.new.conn) c.next_step.ensures.survives

pub returns-in-Err-clause-current : goal.returns-in-Err-clause-current
returns-in-Err-clause-current g c = tt

pub returns-in-Err-clause-same : goal.returns-in-Err-clause-same
returns-in-Err-clause-same g c = tt

pub returns-in-Err-clause-taken : goal.returns-in-Err-clause-taken
returns-in-Err-clause-taken g c = tt

pub returns-in-Err-clause-stopped : goal.returns-in-Err-clause-stopped
returns-in-Err-clause-stopped g c clean = inl (c.in-Err.ensures.err clean)

pub returns-in-Err-clause-mode : goal.returns-in-Err-clause-mode
returns-in-Err-clause-mode g c = c.next_step.ensures.mode

pub returns-in-Err-clause-survives : goal.returns-in-Err-clause-survives
returns-in-Err-clause-survives g c = leaves_one (state g.S.Store c.args.conn.now) (state g.S.Store c.next_step.new.conn) c.next_step.ensures.survives

use Rattle.std.proofs.Common.{IsTrue, rules, true, ◌≡◌}
use Rattle.std.proofs.lemmas.Result.{err_from_is_err_and}
use Rattle.sqlite.specs.Held.{state}
use Rattle.sqlite.specs.State.{HasCleanDisk, KeepsCommit}
use Rattle.mds_tables.specs.Stores.{HoldsTablesOf}
use Rattle.mds_pack_rows.specs.DailyLayout.{daily_layout}
use Rattle.mds_pack_rows.proofs.TwoSchemas.{tables_seen}
use Rattle.mds_store.specs.Daily.{AreDaily, IsDailyStore}
use Rattle.mds_store.proofs.CurrentAdopting.{is_so}
use Rattle.mds_migrate.specs.Migrated.{LeavesMigrated, forming}
use Rattle.mds_migrate.proofs.Asking.{answered_since, holds_still, is_daily, isnt_seen, leaves_since, left_forming, none_of_3, refused_as_none, refused_since, was_forming}
use Rattle.mds_migrate.proofs.Taking.{leaves_none}
use Rattle.mds_migrate.proofs.migrating.if_daily.Given.{Over}
use Rattle.mds_migrate.proofs.migrating.if_daily.Goals as goal
use Rattle.mds_migrate.proofs.migrating.if_daily.Goals.{In_ok-is_daily}

-- the tables are those of the schema
held : (g : Over) (c : In_ok-is_daily g) → HoldsTablesOf daily_layout (state g.S.Store c.args.conn.now)
held g c = tables_seen daily_layout (state g.S.Store c.args.conn.now) c.requires.settled c.requires.schema

-- and it is a store
store : (g : Over) (c : In_ok-is_daily g) → c.in_ok-is_daily.is_daily ≡ true → HasCleanDisk (state g.S.Store c.are_daily.new.conn) → IsTrue (state g.S.Store c.are_daily.new.conn).is_open
    → IsDailyStore (state g.S.Store c.args.conn.now).committed
store g c told =
    let old = state g.S.Store c.args.conn.now in
    let mid = state g.S.Store c.are_daily.new.conn in
    let asked = c.in_ok-is_daily.ensures.answers in
    is_daily old mid (λ clean. asked.kept clean (held g c)) (asked.survives (held g c)) (held g c)
    (λ clean. is_so _ c.in_ok-is_daily.is_daily told (asked.found clean (held g c)))

pub take_step-requires : goal.take_step-requires
take_step-requires g c = record { mode = c.are_daily.ensures.answers.mode }

pub returns-clause-done : goal.returns-clause-done
returns-clause-done g c =
    let old = state g.S.Store c.args.conn.now in
    let mid = state g.S.Store c.are_daily.new.conn in
    let new = state g.S.Store c.take_step.new.conn in
    let asked = c.are_daily.ensures.answers in
    let at = (goal.at.returns-clause-done g c).In_ok-is_daily in
    let kept : HasCleanDisk mid → KeepsCommit old mid = λ clean. asked.kept clean (held g at) in
    let one = asked.survives (held g at) in
    let still = holds_still forming old mid kept one (store g at c.if-not-is_daily.false) in
    answered_since forming old mid kept one (store g at c.if-not-is_daily.false) new was_forming (c.take_step.ensures.survives still) c.take_step.result c.take_step.ensures.done

pub returns-clause-err : goal.returns-clause-err
returns-clause-err g c =
    let old = state g.S.Store c.args.conn.now in
    let mid = state g.S.Store c.are_daily.new.conn in
    let new = state g.S.Store c.take_step.new.conn in
    let asked = c.are_daily.ensures.answers in
    let at = (goal.at.returns-clause-err g c).In_ok-is_daily in
    let kept : HasCleanDisk mid → KeepsCommit old mid = λ clean. asked.kept clean (held g at) in
    let one = asked.survives (held g at) in
    let still = holds_still forming old mid kept one (store g at c.if-not-is_daily.false) in
    refused_since forming old mid kept one (store g at c.if-not-is_daily.false) new (c.take_step.ensures.survives still) c.take_step.result c.take_step.ensures.err

pub returns-clause-survives : goal.returns-clause-survives
returns-clause-survives g c =
    let old = state g.S.Store c.args.conn.now in
    let mid = state g.S.Store c.are_daily.new.conn in
    let new = state g.S.Store c.take_step.new.conn in
    let asked = c.are_daily.ensures.answers in
    let at = (goal.at.returns-clause-survives g c).In_ok-is_daily in
    let kept : HasCleanDisk mid → KeepsCommit old mid = λ clean. asked.kept clean (held g at) in
    let one = asked.survives (held g at) in
    let still = holds_still forming old mid kept one (store g at c.if-not-is_daily.false) in
    leaves_since forming old mid kept one (store g at c.if-not-is_daily.false) (LeavesMigrated old) left_forming new (c.take_step.ensures.survives still)

pub returns-then-not-is_daily-clause-err : goal.returns-then-not-is_daily-clause-err
returns-then-not-is_daily-clause-err g c clean =
    let old = state g.S.Store c.args.conn.now in
    let new = state g.S.Store c.are_daily.new.conn in
    let asked = c.in_ok-is_daily.ensures.answers in
    let held = tables_seen daily_layout old c.requires.settled c.requires.schema in
    let other : ¬ AreDaily old.committed.trees = let it = asked.found clean held in search rules in
    let none = none_of_3 old.now c.requires.schema
    (isnt_seen old new (λ clean. asked.kept clean held) (asked.survives held) AreDaily clean c.requires.settled other (asked.open clean held).is_open) in
    refused_as_none old new (asked.kept clean held) none

pub returns-then-not-is_daily-clause-mode : goal.returns-then-not-is_daily-clause-mode
returns-then-not-is_daily-clause-mode g c = c.are_daily.ensures.answers.mode

pub returns-then-not-is_daily-clause-survives : goal.returns-then-not-is_daily-clause-survives
returns-then-not-is_daily-clause-survives g c =
    let old = state g.S.Store c.args.conn.now in
    leaves_none old (state g.S.Store c.are_daily.new.conn) (LeavesMigrated old)
    (c.are_daily.ensures.answers.survives (tables_seen daily_layout old c.requires.settled c.requires.schema))

pub returns-in_err-is_daily-clause-err : goal.returns-in_err-is_daily-clause-err
returns-in_err-is_daily-clause-err g c =
    let p = err_from_is_err_and c.from_residual.result c.from_residual.ensures.1 in
    rw (p.1, p.2)
    (λ (clean : HasCleanDisk (state g.S.Store c.are_daily.new.conn)).
    c.are_daily.ensures.answers.kept clean
    (tables_seen daily_layout (state g.S.Store c.args.conn.now) c.requires.settled c.requires.schema))

pub returns-in_err-is_daily-clause-mode : goal.returns-in_err-is_daily-clause-mode
returns-in_err-is_daily-clause-mode g c = c.are_daily.ensures.answers.mode

pub returns-in_err-is_daily-clause-survives : goal.returns-in_err-is_daily-clause-survives
returns-in_err-is_daily-clause-survives g c =
    let old = state g.S.Store c.args.conn.now in
    leaves_none old (state g.S.Store c.are_daily.new.conn) (LeavesMigrated old)
    (c.are_daily.ensures.answers.survives (tables_seen daily_layout old c.requires.settled c.requires.schema))

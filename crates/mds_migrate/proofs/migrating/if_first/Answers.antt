use Rattle.std.proofs.Common.{IsTrue, [], pos, rules, true, ◌∷◌, ◌≡◌}
use Rattle.std.proofs.lemmas.Result.{err_from_is_err_and}
use Rattle.sqlite.specs.Held.{state}
use Rattle.sqlite.specs.State.{HasCleanDisk, KeepsCommit}
use Rattle.mds_tables.specs.Layouts.{rows_layout}
use Rattle.mds_tables.specs.Stores.{HoldsTablesOf, IsStore, versions_said}
use Rattle.mds_pack_rows.proofs.TwoSchemas.{tables_seen}
use Rattle.mds_store.proofs.CurrentAdopting.{is_so}
use Rattle.mds_migrate.specs.Migrated.{LeavesMigrated, packing}
use Rattle.mds_migrate.proofs.Asking.{answered_since, holds_still, is_first, isnt_seen, leaves_since, left_packing, none_of_1, refused_as_none, refused_since, was_packing}
use Rattle.mds_migrate.proofs.Taking.{leaves_none}
use Rattle.mds_migrate.proofs.migrating.if_first.Given.{Over}
use Rattle.mds_migrate.proofs.migrating.if_first.Goals as goal
use Rattle.mds_migrate.proofs.migrating.if_first.Goals.{In_ok-is_first}

-- the tables are those of the schema
held : (g : Over) (c : In_ok-is_first g) → HoldsTablesOf rows_layout (state g.S.Store c.args.conn.now)
held g c = tables_seen rows_layout (state g.S.Store c.args.conn.now) c.requires.settled c.requires.schema

-- and it is a store
store : (g : Over) (c : In_ok-is_first g) → c.in_ok-is_first.is_first ≡ true → HasCleanDisk (state g.S.Store c.is_version.new.conn) → IsTrue (state g.S.Store c.is_version.new.conn).is_open
    → IsStore (state g.S.Store c.args.conn.now).committed
store g c told =
    let old = state g.S.Store c.args.conn.now in
    let mid = state g.S.Store c.is_version.new.conn in
    let asked = c.in_ok-is_first.ensures.answers rows_layout in
    is_first old mid (λ clean. asked.kept clean (held g c)) (asked.survives (held g c)) (held g c)
    (λ clean. is_so _ c.in_ok-is_first.is_first told (asked.found clean (held g c)))

pub take_step-requires : goal.take_step-requires
take_step-requires g c = record { mode = (c.is_version.ensures.answers rows_layout).mode }

pub returns-clause-done : goal.returns-clause-done
returns-clause-done g c =
    let old = state g.S.Store c.args.conn.now in
    let mid = state g.S.Store c.is_version.new.conn in
    let new = state g.S.Store c.take_step.new.conn in
    let asked = c.is_version.ensures.answers rows_layout in
    let at = (goal.at.returns-clause-done g c).In_ok-is_first in
    let kept : HasCleanDisk mid → KeepsCommit old mid = λ clean. asked.kept clean (held g at) in
    let one = asked.survives (held g at) in
    let still = holds_still packing old mid kept one (store g at c.if-not-is_first.false) in
    answered_since packing old mid kept one (store g at c.if-not-is_first.false) new was_packing (c.take_step.ensures.survives still) c.take_step.result c.take_step.ensures.done

pub returns-clause-err : goal.returns-clause-err
returns-clause-err g c =
    let old = state g.S.Store c.args.conn.now in
    let mid = state g.S.Store c.is_version.new.conn in
    let new = state g.S.Store c.take_step.new.conn in
    let asked = c.is_version.ensures.answers rows_layout in
    let at = (goal.at.returns-clause-err g c).In_ok-is_first in
    let kept : HasCleanDisk mid → KeepsCommit old mid = λ clean. asked.kept clean (held g at) in
    let one = asked.survives (held g at) in
    let still = holds_still packing old mid kept one (store g at c.if-not-is_first.false) in
    refused_since packing old mid kept one (store g at c.if-not-is_first.false) new (c.take_step.ensures.survives still) c.take_step.result c.take_step.ensures.err

pub returns-clause-survives : goal.returns-clause-survives
returns-clause-survives g c =
    let old = state g.S.Store c.args.conn.now in
    let mid = state g.S.Store c.is_version.new.conn in
    let new = state g.S.Store c.take_step.new.conn in
    let asked = c.is_version.ensures.answers rows_layout in
    let at = (goal.at.returns-clause-survives g c).In_ok-is_first in
    let kept : HasCleanDisk mid → KeepsCommit old mid = λ clean. asked.kept clean (held g at) in
    let one = asked.survives (held g at) in
    let still = holds_still packing old mid kept one (store g at c.if-not-is_first.false) in
    leaves_since packing old mid kept one (store g at c.if-not-is_first.false) (LeavesMigrated old) left_packing new (c.take_step.ensures.survives still)

pub returns-then-not-is_first-clause-err : goal.returns-then-not-is_first-clause-err
returns-then-not-is_first-clause-err g c clean =
    let old = state g.S.Store c.args.conn.now in
    let new = state g.S.Store c.is_version.new.conn in
    let asked = c.in_ok-is_first.ensures.answers rows_layout in
    let held = tables_seen rows_layout old c.requires.settled c.requires.schema in
    let other : ¬ (versions_said old.committed.trees ≡ pos 1 ∷ []) = let it = asked.found clean held in search rules in
    let none = none_of_1 old.now c.requires.schema
    (isnt_seen old new (λ clean. asked.kept clean held) (asked.survives held) (λ trees. versions_said trees ≡ pos 1 ∷ []) clean c.requires.settled other (asked.open clean held).is_open) in
    refused_as_none old new (asked.kept clean held) none

pub returns-then-not-is_first-clause-mode : goal.returns-then-not-is_first-clause-mode
returns-then-not-is_first-clause-mode g c = (c.is_version.ensures.answers rows_layout).mode

pub returns-then-not-is_first-clause-survives : goal.returns-then-not-is_first-clause-survives
returns-then-not-is_first-clause-survives g c =
    let old = state g.S.Store c.args.conn.now in
    leaves_none old (state g.S.Store c.is_version.new.conn) (LeavesMigrated old)
    ((c.is_version.ensures.answers rows_layout).survives (tables_seen rows_layout old c.requires.settled c.requires.schema))

pub returns-in_err-is_first-clause-err : goal.returns-in_err-is_first-clause-err
returns-in_err-is_first-clause-err g c =
    let p = err_from_is_err_and c.from_residual.result c.from_residual.ensures.1 in
    rw (p.1, p.2)
    (λ (clean : HasCleanDisk (state g.S.Store c.is_version.new.conn)).
    (c.is_version.ensures.answers rows_layout).kept clean
    (tables_seen rows_layout (state g.S.Store c.args.conn.now) c.requires.settled c.requires.schema))

pub returns-in_err-is_first-clause-mode : goal.returns-in_err-is_first-clause-mode
returns-in_err-is_first-clause-mode g c = (c.is_version.ensures.answers rows_layout).mode

pub returns-in_err-is_first-clause-survives : goal.returns-in_err-is_first-clause-survives
returns-in_err-is_first-clause-survives g c =
    let old = state g.S.Store c.args.conn.now in
    leaves_none old (state g.S.Store c.is_version.new.conn) (LeavesMigrated old)
    ((c.is_version.ensures.answers rows_layout).survives (tables_seen rows_layout old c.requires.settled c.requires.schema))

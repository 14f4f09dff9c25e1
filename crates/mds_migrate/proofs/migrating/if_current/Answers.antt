use Rattle.std.proofs.Common.{rules}
use Rattle.std.proofs.lemmas.Result.{err_from_is_err_and}
use Rattle.sqlite.specs.Held.{state}
use Rattle.sqlite.specs.State.{HasCleanDisk}
use Rattle.mds_pack_rows.specs.Current.{current_layout}
use Rattle.mds_pack_rows.proofs.TwoSchemas.{tables_seen}
use Rattle.mds_store.specs.CurrentStore.{AreCurrent}
use Rattle.mds_migrate.proofs.Asking.{is_current, isnt_seen, none_of_current, refused_as_none}
use Rattle.mds_migrate.proofs.migrating.if_current.Goals as goal

pub returns-clause-done : goal.returns-clause-done
returns-clause-done g c clean =
    let old = state g.S.Store c.args.conn.now in
    let new = state g.S.Store c.are_current.new.conn in
    let asked = c.in_ok-is_current.ensures.answers in
    let held = tables_seen current_layout old c.requires.settled c.requires.schema in
    let are : HasCleanDisk new → AreCurrent old.committed.trees = λ clean. let it = asked.found clean held in search rules in
    let are_open = asked.open clean held in (
      is_current old new (λ clean. asked.kept clean held) (asked.survives held) held are clean are_open.is_open,
      are_open,
      asked.kept clean held,
    )

pub returns-clause-mode : goal.returns-clause-mode
returns-clause-mode g c = c.are_current.ensures.answers.mode

pub returns-clause-survives : goal.returns-clause-survives
returns-clause-survives g c =
    c.are_current.ensures.answers.survives (tables_seen current_layout (state g.S.Store c.args.conn.now) c.requires.settled c.requires.schema)

pub returns-then-not-is_current-clause-err : goal.returns-then-not-is_current-clause-err
returns-then-not-is_current-clause-err g c clean =
    let old = state g.S.Store c.args.conn.now in
    let new = state g.S.Store c.are_current.new.conn in
    let asked = c.in_ok-is_current.ensures.answers in
    let held = tables_seen current_layout old c.requires.settled c.requires.schema in
    let other : ¬ AreCurrent old.committed.trees = let it = asked.found clean held in search rules in
    let none = none_of_current old.now c.requires.schema
    (isnt_seen old new (λ clean. asked.kept clean held) (asked.survives held) AreCurrent clean c.requires.settled other (asked.open clean held).is_open) in
    refused_as_none old new (asked.kept clean held) none

pub returns-then-not-is_current-clause-mode : goal.returns-then-not-is_current-clause-mode
returns-then-not-is_current-clause-mode g c = c.are_current.ensures.answers.mode

pub returns-then-not-is_current-clause-survives : goal.returns-then-not-is_current-clause-survives
returns-then-not-is_current-clause-survives g c =
    c.are_current.ensures.answers.survives (tables_seen current_layout (state g.S.Store c.args.conn.now) c.requires.settled c.requires.schema)

pub returns-in_err-is_current-clause-err : goal.returns-in_err-is_current-clause-err
returns-in_err-is_current-clause-err g c =
    let p = err_from_is_err_and c.from_residual.result c.from_residual.ensures.1 in
    rw (p.1, p.2)
    (λ (clean : HasCleanDisk (state g.S.Store c.are_current.new.conn)).
    c.are_current.ensures.answers.kept clean
    (tables_seen current_layout (state g.S.Store c.args.conn.now) c.requires.settled c.requires.schema))

pub returns-in_err-is_current-clause-mode : goal.returns-in_err-is_current-clause-mode
returns-in_err-is_current-clause-mode g c = c.are_current.ensures.answers.mode

pub returns-in_err-is_current-clause-survives : goal.returns-in_err-is_current-clause-survives
returns-in_err-is_current-clause-survives g c =
    c.are_current.ensures.answers.survives (tables_seen current_layout (state g.S.Store c.args.conn.now) c.requires.settled c.requires.schema)

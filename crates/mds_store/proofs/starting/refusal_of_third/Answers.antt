use Rattle.std.proofs.Common.{rules, arith, subst, sym}
use Rattle.sqlite.specs.Effect.{Database}
use Rattle.sqlite.specs.Held.{state}
use Rattle.mds_pack_rows.specs.Current.{current_layout}
use Rattle.mds_pack_rows.specs.DailyLayout.{daily_layout}
use Rattle.mds_pack_rows.specs.DailyTables.{schema_3}
use Rattle.mds_pack_rows.proofs.TwoSchemas.{not_of, tables_seen}
use Rattle.mds_store.specs.Daily.{AreDaily, IsDailyStore}
use Rattle.mds_store.proofs.CurrentAdopting.{isnt_seen, of_daily}
use Rattle.mds_store.proofs.Earlier.{is_third, of_third}
use Rattle.mds_store.proofs.starting.refusal_of_third.Goals as goal

pub returns-in-Ok-true-clause-err : goal.returns-in-Ok-true-clause-err
returns-in-Ok-true-clause-err g c clean =
    let old = state g.S.Store c.args.conn in
    let held = tables_seen daily_layout old c.requires.settled c.requires.schema in
    let are : AreDaily old.committed.trees = let it = c.in-Ok-true.ensures.answers.found clean held in search rules in
    let same = c.requires.settled (c.in-Ok-true.ensures.answers.open clean held).was_open in
    let now : AreDaily old.now.trees = subst (λ (db : Database). AreDaily db.trees) (sym same) are in
    let store : IsDailyStore old.now =
    record { store = record { schema = c.requires.schema; version = now.version }; bare = now.bare } in
    (c.are_daily.ensures.answers.kept clean held, of_third old.now store)

pub returns-in-Ok-false-clause-err : goal.returns-in-Ok-false-clause-err
returns-in-Ok-false-clause-err g c clean =
    let old = state g.S.Store c.args.conn in
    let new = state g.S.Store c.are_daily.new.conn in
    let asked = c.are_daily.ensures.answers in
    let held = tables_seen daily_layout old c.requires.settled c.requires.schema in
    let other : ¬ AreDaily old.committed.trees = let it = c.in-Ok-false.ensures.answers.found clean held in search rules in (
      asked.kept clean held,
      (λ later. not_of current_layout schema_3 old.now c.requires.schema (λ same. omega (arith, same)) later.store),
      (λ earlier.
          isnt_seen daily_layout old new held (λ clean. asked.kept clean held) AreDaily clean c.requires.settled other
          (c.in-Ok-false.ensures.answers.open clean held).is_open (of_daily old.now (is_third old.now c.requires.schema earlier))),
    )

pub returns-in-Err-clause-err : goal.returns-in-Err-clause-err
returns-in-Err-clause-err g c clean =
    let held = tables_seen daily_layout (state g.S.Store c.args.conn) c.requires.settled c.requires.schema in
    rw c.from.ensures (c.are_daily.ensures.answers.kept clean held, c.in-Err.ensures.cause clean held)

pub returns-in-Ok-true-clause-limit : goal.returns-in-Ok-true-clause-limit
returns-in-Ok-true-clause-limit g c = (c.are_daily.ensures.answers.survives (tables_seen daily_layout (state g.S.Store c.args.conn) c.requires.settled c.requires.schema)).limit

pub returns-in-Ok-true-clause-mode : goal.returns-in-Ok-true-clause-mode
returns-in-Ok-true-clause-mode g c = c.are_daily.ensures.answers.mode

pub returns-in-Ok-true-clause-survives : goal.returns-in-Ok-true-clause-survives
returns-in-Ok-true-clause-survives g c = c.are_daily.ensures.answers.survives (tables_seen daily_layout (state g.S.Store c.args.conn) c.requires.settled c.requires.schema)

pub returns-in-Ok-false-clause-limit : goal.returns-in-Ok-false-clause-limit
returns-in-Ok-false-clause-limit g c = (c.are_daily.ensures.answers.survives (tables_seen daily_layout (state g.S.Store c.args.conn) c.requires.settled c.requires.schema)).limit

pub returns-in-Ok-false-clause-mode : goal.returns-in-Ok-false-clause-mode
returns-in-Ok-false-clause-mode g c = c.are_daily.ensures.answers.mode

pub returns-in-Ok-false-clause-survives : goal.returns-in-Ok-false-clause-survives
returns-in-Ok-false-clause-survives g c = c.are_daily.ensures.answers.survives (tables_seen daily_layout (state g.S.Store c.args.conn) c.requires.settled c.requires.schema)

pub returns-in-Err-clause-limit : goal.returns-in-Err-clause-limit
returns-in-Err-clause-limit g c = (c.are_daily.ensures.answers.survives (tables_seen daily_layout (state g.S.Store c.args.conn) c.requires.settled c.requires.schema)).limit

pub returns-in-Err-clause-mode : goal.returns-in-Err-clause-mode
returns-in-Err-clause-mode g c = c.are_daily.ensures.answers.mode

pub returns-in-Err-clause-survives : goal.returns-in-Err-clause-survives
returns-in-Err-clause-survives g c = c.are_daily.ensures.answers.survives (tables_seen daily_layout (state g.S.Store c.args.conn) c.requires.settled c.requires.schema)

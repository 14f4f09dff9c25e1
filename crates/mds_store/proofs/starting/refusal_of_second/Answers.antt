use Rattle.std.proofs.Common.{rules, arith, subst, sym}
use Rattle.sqlite.specs.Effect.{Database}
use Rattle.sqlite.specs.Held.{state}
use Rattle.mds_pack_rows.specs.Current.{current_layout}
use Rattle.mds_pack_rows.specs.PackTables.{schema_2}
use Rattle.mds_pack_rows.specs.PacksLayout.{packs_layout}
use Rattle.mds_pack_rows.proofs.TwoSchemas.{not_of, tables_seen}
use Rattle.mds_store.specs.Packed.{ArePacked, IsPackedStore}
use Rattle.mds_store.proofs.CurrentAdopting.{isnt_seen, of_pack}
use Rattle.mds_store.proofs.Earlier.{is_second, of_second}
use Rattle.mds_store.proofs.starting.refusal_of_second.Goals as goal

pub returns-in-Ok-true-clause-err : goal.returns-in-Ok-true-clause-err
returns-in-Ok-true-clause-err g c clean =
    let old = state g.S.Store c.args.conn in
    let held = tables_seen packs_layout old c.requires.settled c.requires.schema in
    let are : ArePacked old.committed.trees = let it = c.in-Ok-true.ensures.answers.found clean held in search rules in
    let same = c.requires.settled (c.in-Ok-true.ensures.answers.open clean held).was_open in
    let now : ArePacked old.now.trees = subst (λ (db : Database). ArePacked db.trees) (sym same) are in
    let store : IsPackedStore old.now =
    record { store = record { schema = c.requires.schema; version = now.version }; unversioned = now.unversioned } in
    (c.are_packed.ensures.answers.kept clean held, of_second old.now store)

pub returns-in-Ok-false-clause-err : goal.returns-in-Ok-false-clause-err
returns-in-Ok-false-clause-err g c clean =
    let old = state g.S.Store c.args.conn in
    let new = state g.S.Store c.are_packed.new.conn in
    let asked = c.are_packed.ensures.answers in
    let held = tables_seen packs_layout old c.requires.settled c.requires.schema in
    let other : ¬ ArePacked old.committed.trees = let it = c.in-Ok-false.ensures.answers.found clean held in search rules in (
      asked.kept clean held,
      (λ later. not_of current_layout schema_2 old.now c.requires.schema (λ same. omega (arith, same)) later.store),
      (λ earlier.
          isnt_seen packs_layout old new held (λ clean. asked.kept clean held) ArePacked clean c.requires.settled other
          (c.in-Ok-false.ensures.answers.open clean held).is_open (of_pack old.now (is_second old.now c.requires.schema earlier))),
    )

pub returns-in-Err-clause-err : goal.returns-in-Err-clause-err
returns-in-Err-clause-err g c clean =
    let held = tables_seen packs_layout (state g.S.Store c.args.conn) c.requires.settled c.requires.schema in
    rw c.from.ensures (c.are_packed.ensures.answers.kept clean held, c.in-Err.ensures.cause clean held)

pub returns-in-Ok-true-clause-limit : goal.returns-in-Ok-true-clause-limit
returns-in-Ok-true-clause-limit g c = (c.are_packed.ensures.answers.survives (tables_seen packs_layout (state g.S.Store c.args.conn) c.requires.settled c.requires.schema)).limit

pub returns-in-Ok-true-clause-mode : goal.returns-in-Ok-true-clause-mode
returns-in-Ok-true-clause-mode g c = c.are_packed.ensures.answers.mode

pub returns-in-Ok-true-clause-survives : goal.returns-in-Ok-true-clause-survives
returns-in-Ok-true-clause-survives g c = c.are_packed.ensures.answers.survives (tables_seen packs_layout (state g.S.Store c.args.conn) c.requires.settled c.requires.schema)

pub returns-in-Ok-false-clause-limit : goal.returns-in-Ok-false-clause-limit
returns-in-Ok-false-clause-limit g c = (c.are_packed.ensures.answers.survives (tables_seen packs_layout (state g.S.Store c.args.conn) c.requires.settled c.requires.schema)).limit

pub returns-in-Ok-false-clause-mode : goal.returns-in-Ok-false-clause-mode
returns-in-Ok-false-clause-mode g c = c.are_packed.ensures.answers.mode

pub returns-in-Ok-false-clause-survives : goal.returns-in-Ok-false-clause-survives
returns-in-Ok-false-clause-survives g c = c.are_packed.ensures.answers.survives (tables_seen packs_layout (state g.S.Store c.args.conn) c.requires.settled c.requires.schema)

pub returns-in-Err-clause-limit : goal.returns-in-Err-clause-limit
returns-in-Err-clause-limit g c = (c.are_packed.ensures.answers.survives (tables_seen packs_layout (state g.S.Store c.args.conn) c.requires.settled c.requires.schema)).limit

pub returns-in-Err-clause-mode : goal.returns-in-Err-clause-mode
returns-in-Err-clause-mode g c = c.are_packed.ensures.answers.mode

pub returns-in-Err-clause-survives : goal.returns-in-Err-clause-survives
returns-in-Err-clause-survives g c = c.are_packed.ensures.answers.survives (tables_seen packs_layout (state g.S.Store c.args.conn) c.requires.settled c.requires.schema)

use Rattle.std.specs.Prelude.{◌≡◌, [], ◌∷◌, pos}
use Rattle.std.proofs.Common.{rules, ap, ◌∙◌, arith}
use Rattle.sqlite.specs.Held.{state}
use Rattle.mds_tables.specs.Layouts.{rows_layout}
use Rattle.mds_tables.specs.Stores.{IsStore}
use Rattle.mds_tables.specs.Tables.{schema_1}
use Rattle.mds_pack_rows.specs.Current.{current_layout}
use Rattle.mds_store.proofs.Adopting.{is_none, said}
use Rattle.mds_store.proofs.Earlier.{is_first, of_first}
use Rattle.mds_pack_rows.proofs.TwoSchemas.{not_of, tables_seen}
use Rattle.mds_store.proofs.starting.refusal_of_first.Goals as goal

pub returns-in-Ok-true-clause-err : goal.returns-in-Ok-true-clause-err
returns-in-Ok-true-clause-err g c clean =
    let old = state g.S.Store c.args.conn in
    let held = tables_seen rows_layout old c.requires.settled c.requires.schema in
    let says : said old.committed ≡ pos 1 ∷ [] = let it = (c.in-Ok-true.ensures.answers rows_layout).found clean held in search rules in
    let same = c.requires.settled ((c.in-Ok-true.ensures.answers rows_layout).open clean held).was_open in
    let store : IsStore old.now = record { schema = c.requires.schema; version = ap said same ∙ says } in
    ((c.is_version.ensures.answers rows_layout).kept clean held, of_first old.now store)

pub returns-in-Ok-true-clause-limit : goal.returns-in-Ok-true-clause-limit
returns-in-Ok-true-clause-limit g c =
    ((c.is_version.ensures.answers rows_layout).survives (tables_seen rows_layout (state g.S.Store c.args.conn) c.requires.settled c.requires.schema)).limit

pub returns-in-Ok-true-clause-mode : goal.returns-in-Ok-true-clause-mode
returns-in-Ok-true-clause-mode g c = (c.is_version.ensures.answers rows_layout).mode

pub returns-in-Ok-true-clause-survives : goal.returns-in-Ok-true-clause-survives
returns-in-Ok-true-clause-survives g c =
    (c.is_version.ensures.answers rows_layout).survives (tables_seen rows_layout (state g.S.Store c.args.conn) c.requires.settled c.requires.schema)

pub returns-in-Ok-false-clause-err : goal.returns-in-Ok-false-clause-err
returns-in-Ok-false-clause-err g c clean =
    let old = state g.S.Store c.args.conn in
    let new = state g.S.Store c.is_version.new.conn in
    let asked = c.is_version.ensures.answers rows_layout in
    let held = tables_seen rows_layout old c.requires.settled c.requires.schema in
    let other : ¬ (said old.committed ≡ pos 1 ∷ []) = let it = (c.in-Ok-false.ensures.answers rows_layout).found clean held in search rules in (
      asked.kept clean held,
      (λ later. not_of current_layout schema_1 old.now c.requires.schema (λ same. omega (arith, same)) later.store),
      (λ earlier.
          is_none rows_layout old new held (asked.survives held) (λ clean. asked.kept clean held) clean c.requires.settled other
          ((c.in-Ok-false.ensures.answers rows_layout).open clean held).is_open (is_first old.now c.requires.schema earlier)),
    )

pub returns-in-Ok-false-clause-limit : goal.returns-in-Ok-false-clause-limit
returns-in-Ok-false-clause-limit g c =
    ((c.is_version.ensures.answers rows_layout).survives (tables_seen rows_layout (state g.S.Store c.args.conn) c.requires.settled c.requires.schema)).limit

pub returns-in-Ok-false-clause-mode : goal.returns-in-Ok-false-clause-mode
returns-in-Ok-false-clause-mode g c = (c.is_version.ensures.answers rows_layout).mode

pub returns-in-Ok-false-clause-survives : goal.returns-in-Ok-false-clause-survives
returns-in-Ok-false-clause-survives g c =
    (c.is_version.ensures.answers rows_layout).survives (tables_seen rows_layout (state g.S.Store c.args.conn) c.requires.settled c.requires.schema)

pub returns-in-Err-clause-err : goal.returns-in-Err-clause-err
returns-in-Err-clause-err g c clean =
    let held = tables_seen rows_layout (state g.S.Store c.args.conn) c.requires.settled c.requires.schema in
    rw c.from.ensures ((c.is_version.ensures.answers rows_layout).kept clean held, c.in-Err.ensures.cause rows_layout clean held)

pub returns-in-Err-clause-limit : goal.returns-in-Err-clause-limit
returns-in-Err-clause-limit g c =
    ((c.is_version.ensures.answers rows_layout).survives (tables_seen rows_layout (state g.S.Store c.args.conn) c.requires.settled c.requires.schema)).limit

pub returns-in-Err-clause-mode : goal.returns-in-Err-clause-mode
returns-in-Err-clause-mode g c = (c.is_version.ensures.answers rows_layout).mode

pub returns-in-Err-clause-survives : goal.returns-in-Err-clause-survives
returns-in-Err-clause-survives g c =
    (c.is_version.ensures.answers rows_layout).survives (tables_seen rows_layout (state g.S.Store c.args.conn) c.requires.settled c.requires.schema)

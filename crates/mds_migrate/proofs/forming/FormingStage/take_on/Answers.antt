use Rattle.std.proofs.Common.{◌∙◌, Ok}
use Rattle.sqlite.specs.Held.{state}
use Rattle.mds_tables.proofs.FrameLemmas.{frames_as, frames_both, frames_failed, frames_stop}
use Rattle.mds_pack_rows.specs.DailyTables.{schema_3}
use Rattle.mds_pack_rows.specs.FormLayout.{forms_behind}
use Rattle.mds_pack_rows.specs.FormTables.{schema_4}
use Rattle.mds_pack_rows.specs.Making.{MakesTable}
use Rattle.mds_pack_rows.proofs.FrameLemmas.{frames_make}
use Rattle.mds_migrate.proofs.FormingSteps.{has_formed}
use Rattle.mds_migrate.proofs.forming.FormingStage.take_on.Goals as goal

pub returns-in_err-or_unavailable-clause-moves : goal.returns-in_err-or_unavailable-clause-moves
returns-in_err-or_unavailable-clause-moves g c =
    frames_failed c.from_residual.result c.from_residual.ensures.0 (λ clean _. c.make_table.ensures.kept clean) c.make_table.ensures.survives

pub returns-in_err-form_days-clause-moves : goal.returns-in_err-form_days-clause-moves
returns-in_err-form_days-clause-moves g c =
    let a = state g.S.Store c.args.tx.now.conn.now in
    let b = state g.S.Store c.make_table.new.tx.conn.now in
    let make = frames_make {X = Unit {0}} {E = Unit {0}} schema_3 schema_4 a b (Ok tt) (λ (it : MakesTable 10 a b). (it.is_open, it.schema, it.sound))
    (rw c.in_ok-or_unavailable.ensures at c.make_table.ensures.ok) (rw c.in_ok-or_unavailable.ensures at c.make_table.ensures.makes)
    c.make_table.ensures.kept c.make_table.ensures.survives in
    frames_stop c.from_residual-in_err-form_days.result c.from_residual-in_err-form_days.ensures.0 (frames_both make c.form_days.ensures.frames)

pub returns-in_err-clear_lengths-clause-moves : goal.returns-in_err-clear_lengths-clause-moves
returns-in_err-clear_lengths-clause-moves g c =
    let a = state g.S.Store c.args.tx.now.conn.now in
    let b = state g.S.Store c.make_table.new.tx.conn.now in
    let make = frames_make {X = Unit {0}} {E = Unit {0}} schema_3 schema_4 a b (Ok tt) (λ (it : MakesTable 10 a b). (it.is_open, it.schema, it.sound))
    (rw c.in_ok-or_unavailable.ensures at c.make_table.ensures.ok) (rw c.in_ok-or_unavailable.ensures at c.make_table.ensures.makes)
    c.make_table.ensures.kept c.make_table.ensures.survives in
    frames_stop c.from_residual-in_err-clear_lengths.result c.from_residual-in_err-clear_lengths.ensures.0
    (frames_both make (frames_both c.in_ok-form_days.ensures.frames c.clear_lengths.ensures.frames))

pub returns-clause-moves : goal.returns-clause-moves
returns-clause-moves g c =
    let a = state g.S.Store c.args.tx.now.conn.now in
    let b = state g.S.Store c.make_table.new.tx.conn.now in
    let make = frames_make {X = Unit {0}} {E = Unit {0}} schema_3 schema_4 a b (Ok tt) (λ (it : MakesTable 10 a b). (it.is_open, it.schema, it.sound))
    (rw c.in_ok-or_unavailable.ensures at c.make_table.ensures.ok) (rw c.in_ok-or_unavailable.ensures at c.make_table.ensures.makes)
    c.make_table.ensures.kept c.make_table.ensures.survives in
    let all = frames_both make
    (frames_both c.in_ok-form_days.ensures.frames (frames_both c.in_ok-clear_lengths.ensures.frames (c.raise_version.ensures.frames forms_behind))) in
    frames_as (λ _ _ did first. has_formed a b
    (state g.S.Store c.form_days.new.tx.conn.now) (state g.S.Store c.clear_lengths.new.tx.conn.now) (state g.S.Store c.raise_version.new.tx.conn.now)
    first did.0 did.1.0 did.1.1.0 did.1.1.1) all

pub returns-in_err-or_unavailable-clause-same_reference : goal.returns-in_err-or_unavailable-clause-same_reference
returns-in_err-or_unavailable-clause-same_reference g c = c.make_table.ensures.same_reference

pub returns-in_err-form_days-clause-same_reference : goal.returns-in_err-form_days-clause-same_reference
returns-in_err-form_days-clause-same_reference g c = c.form_days.ensures.same_reference ∙ c.make_table.ensures.same_reference

pub returns-in_err-clear_lengths-clause-same_reference : goal.returns-in_err-clear_lengths-clause-same_reference
returns-in_err-clear_lengths-clause-same_reference g c =
    c.clear_lengths.ensures.same_reference ∙ (c.form_days.ensures.same_reference ∙ c.make_table.ensures.same_reference)

pub returns-clause-same_reference : goal.returns-clause-same_reference
returns-clause-same_reference g c =
    c.raise_version.ensures.same_reference
    ∙ (c.clear_lengths.ensures.same_reference ∙ (c.form_days.ensures.same_reference ∙ c.make_table.ensures.same_reference))

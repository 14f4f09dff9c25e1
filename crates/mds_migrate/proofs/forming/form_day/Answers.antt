use Rattle.std.proofs.Common.{Ok, subst, arith}
use Rattle.sqlite.specs.Held.{state}
use Rattle.mds_keeper.specs.declared.keeper.Unavailable.{Unavailable}
use Rattle.mds_tables.specs.Cells.{day_cells}
use Rattle.mds_tables.specs.Stores.{Selects}
use Rattle.mds_tables.proofs.FrameLemmas.{frames_failed, frames_refused, frames_then}
use Rattle.mds_pack_rows.specs.FormLayout.{forms_behind}
use Rattle.mds_pack_rows.specs.PackTables.{pack_tree, update_columns}
use Rattle.mds_pack_rows.proofs.FrameLemmas.{frames_finds}
use Rattle.mds_migrate.specs.Forming.{PutsForms}
use Rattle.mds_migrate.proofs.FormingLemmas.{forms_day}
use Rattle.mds_migrate.proofs.forming.form_day.Goals as goal

pub returns-in_err-head-clause-frames : goal.returns-in_err-head-clause-frames
returns-in_err-head-clause-frames g c =
    frames_refused (state g.S.Store c.args.tx.now.conn.now) c.from_residual.result c.from_residual.ensures.0

pub returns-in_err-packs-clause-frames : goal.returns-in_err-packs-clause-frames
returns-in_err-packs-clause-frames g c =
    frames_failed c.from_residual-in_err-packs.result c.from_residual-in_err-packs.ensures.0
    (λ clean at. c.packs_of_day.ensures.kept clean forms_behind.more at.schema) c.packs_of_day.ensures.survives

pub returns-clause-frames : goal.returns-clause-frames
returns-clause-frames g c =
    let a = state g.S.Store c.args.tx.now.conn.now in
    let b = state g.S.Store c.packs_of_day.new.tx.conn.now in
    let d = state g.S.Store c.form_each.new.tx.conn.now in
    let head = c.in_ok-head.head in
    let asked = frames_finds {E = Unavailable} forms_behind.more a b (Ok c.in_ok-packs.packs)
    (λ rows trees. Selects pack_tree (day_cells head.stream head.day) update_columns trees rows.items) (λ clean _. c.in_ok-packs.ensures.ok clean)
    c.in_ok-packs.ensures.goes_on (λ clean _. c.packs_of_day.ensures.kept clean) c.packs_of_day.ensures.survives in
    frames_then (λ _ at _ _ found puts. forms_day a b d at c.args.row.now head (rw c.in_ok-head.ensures at c.head_in.ensures.some)
    (omega (arith, c.number.ensures.last)) c.in_ok-packs.packs.items found (subst (PutsForms b d head) c.as_slice.ensures.value puts))
    asked c.form_each.ensures.frames

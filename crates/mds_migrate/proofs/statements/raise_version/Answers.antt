use Rattle.std.proofs.Common.{◌≡◌, [], ◌∷◌, IsErr, OnOk, arith, of_z, refl, rules, sym, to_z, to_z-of_z, w64, ◌∙◌}
use Rattle.sqlite.specs.Held.{state}
use Rattle.sqlite.specs.State.{HasCleanDisk, KeepsCommit}
use Rattle.sqlite.proofs.InsideLemmas.{keeps_then}
use Rattle.mds_tables.specs.Stores.{SelectsAll}
use Rattle.mds_tables.specs.Tables.{More, schema_tree, schema_with}
use Rattle.mds_pack_rows.specs.PackTables.{packs_then}
use Rattle.mds_pack_rows.specs.Putting.{FindsThere, GoesOn, IsThere}
use Rattle.mds_pack_rows.proofs.AskLemmas.{asked_kept, finds_all, shown_kept, shown_on}
use Rattle.mds_pack_rows.proofs.FrameLemmas.{frames_there}
use Rattle.mds_pack_rows.proofs.PutLemmas.{if_ok, one_row, on_then}
use Rattle.mds_migrate.specs.Migrating.{Raises}
use Rattle.mds_migrate.proofs.StatementLemmas.{raises}
use Rattle.mds_migrate.proofs.StatementTexts.{rowid_columns, select_rowids, select_rowids_is, select_rowids_plain}
use Rattle.mds_migrate.proofs.statements.raise_version.Given.{Over}
use Rattle.mds_migrate.proofs.statements.raise_version.Goals.{In_ok-rows}
use Rattle.mds_tables.proofs.CallLemmas.{survives_more}
use Rattle.mds_tables.proofs.FrameLemmas.{frames_failed}
use Rattle.mds_migrate.proofs.statements.raise_version.Goals as goal

-- the rowids were found
finds : (g : Over) (c : In_ok-rows g) → HasCleanDisk (state g.S.Store c.query_all.new.self.conn.now)
    → FindsThere (state g.S.Store c.args.tx.now.conn.now) (state g.S.Store c.query_all.new.self.conn.now)
    (λ trees. SelectsAll schema_tree rowid_columns trees c.in_ok-rows.rows.items)
finds g c clean =
    finds_all select_rowids schema_tree rowid_columns _ select_rowids_plain (λ db. refl) select_rowids_is
    (state g.S.Store c.args.tx.now.conn.now) (state g.S.Store c.query_all.new.self.conn.now) c.in_ok-rows.rows.items
    (rw c.in_ok-rows.ensures at (c.query_all.ensures.ok clean))

-- and nothing was committed
kept : (g : Over) (c : In_ok-rows g) → HasCleanDisk (state g.S.Store c.query_all.new.self.conn.now)
    → (rest : More) → (state g.S.Store c.args.tx.now.conn.now).now.schema ≡ schema_with (packs_then rest)
    → KeepsCommit (state g.S.Store c.args.tx.now.conn.now) (state g.S.Store c.query_all.new.self.conn.now)
kept g c clean rest has =
    shown_kept (schema_with (packs_then rest)) select_rowids (select_rowids_plain rest).0 (state g.S.Store c.args.tx.now.conn.now) (state g.S.Store c.query_all.new.self.conn.now) [] has
    c.in_ok-rows.rows.items (rw c.in_ok-rows.ensures at (c.query_all.ensures.ok clean))

pub returns-in_err-rows-clause-frames : goal.returns-in_err-rows-clause-frames
returns-in_err-rows-clause-frames g c rest =
    frames_failed c.from_residual.result c.from_residual.ensures.0
    (λ clean at. asked_kept (schema_with (packs_then rest.more)) select_rowids (select_rowids_plain rest.more).0 (state g.S.Store c.args.tx.now.conn.now)
    (state g.S.Store c.query_all.new.self.conn.now) [] at.schema c.query_all.result (c.query_all.ensures.ok clean) (c.query_all.ensures.err clean))
    c.query_all.ensures.survives

pub returns-in-len1-clause-frames : goal.returns-in-len1-clause-frames
returns-in-len1-clause-frames g c rest =
    let old = state g.S.Store c.args.tx.now.conn.now in
    let mid = state g.S.Store c.query_all.new.self.conn.now in
    let new = state g.S.Store c.replace_version.new.tx.conn.now in
    let later = c.replace_version.ensures.survives.clean in
    let found = finds g (goal.at.returns-in-len1-clause-frames g c).In_ok-rows in
    let shown = c.row-item.result in
    let same : to_z w64 (of_z w64 c.args.number) ≡ c.args.number = to_z-of_z {w = w64} {z = c.args.number} (search rules) in
    let alone : c.in_ok-rows.rows.items ≡ shown ∷ [] = sym c.as_slice.ensures.value ∙ one_row _ shown (omega arith) c.row-item.is in
    let goes_on : OnOk c.replace_version.result (GoesOn old new) =
    if_ok c.replace_version.result (GoesOn mid new) (GoesOn old new)
    (on_then old mid new later
    (shown_on select_rowids [] old mid c.in_ok-rows.rows.items (λ clean. rw c.in_ok-rows.ensures at (c.query_all.ensures.ok clean))))
    c.replace_version.ensures.goes_on in
    let done : OnOk c.replace_version.result (IsThere old new → Raises c.args.number old new) =
    if_ok c.replace_version.result _ _
    (raises c.args.number old mid new later (λ clean. (found clean).same) c.in_ok-rows.rows.items shown alone found)
    (rw same at c.replace_version.ensures.ok) in
    frames_there rest old new c.replace_version.result (λ (it : Raises c.args.number old new). (it.is_open, it.schema, it.sound)) goes_on done
    (λ there. keeps_then old mid new
    (kept g (goal.at.returns-in-len1-clause-frames g c).In_ok-rows (omega (arith, there.clean, later)) there.rest.more there.schema)
    (c.replace_version.ensures.kept there.clean))
    (survives_more old mid new c.query_all.ensures.survives c.replace_version.ensures.survives)

pub returns-clause-frames : goal.returns-clause-frames
returns-clause-frames g c rest =
    let failed : IsErr c.if-as_slice-lt1.result = search rules in
    frames_failed c.if-as_slice-lt1.result failed
    (λ clean at. kept g (goal.at.returns-clause-frames g c).In_ok-rows clean rest.more at.schema) c.query_all.ensures.survives

pub returns-in_err-rows-clause-same_reference : goal.returns-in_err-rows-clause-same_reference
returns-in_err-rows-clause-same_reference g c = c.query_all.ensures.same_reference

pub returns-in-len1-clause-same_reference : goal.returns-in-len1-clause-same_reference
returns-in-len1-clause-same_reference g c = c.replace_version.ensures.same_reference ∙ c.query_all.ensures.same_reference

pub returns-clause-same_reference : goal.returns-clause-same_reference
returns-clause-same_reference g c = c.query_all.ensures.same_reference

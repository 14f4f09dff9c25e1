use Rattle.std.proofs.Common.{◌≡◌, arith, false, length, refl, subst, sym, ◌∙◌, [], ◌∷◌}
use Rattle.std.proofs.lemmas.Result.{IfOk-from_err}
use Rattle.sqlite.specs.Held.{state}
use Rattle.sqlite.proofs.InsideLemmas.{keeps_then}
use Rattle.mds_packs.proofs.Whole.{any_held}
use Rattle.mds_tables.specs.Stores.{Selects}
use Rattle.mds_tables.proofs.CallLemmas.{keeps_same, survives_more, survives_same}
use Rattle.mds_pack_rows.specs.PackCells as row
use Rattle.mds_pack_rows.specs.PackTables.{body_columns, pack_tree}
use Rattle.mds_pack_rows.specs.PackFacts.{minutes_of}
use Rattle.mds_pack_rows.specs.Putting.{PutsFacts}
use Rattle.mds_pack_rows.proofs.PutLemmas.{if_ok, lays_since, one_row, puts_none, puts_since}
use Rattle.mds_pack_rows.proofs.SpreadLemmas.{none_held}
use Rattle.mds_pack_rows.proofs.putting.put_readings.Goals as goal

pub returns-then-not-has_some-clause-ok : goal.returns-then-not-has_some-clause-ok
returns-then-not-has_some-clause-ok g c =
    let s = state g.S.Store c.args.tx.now.conn.now in
    let none : any_held c.args.readings.now ≡ false = sym c.has_some.ensures ∙ c.if-not-has_some.true in
    subst (PutsFacts s s) (sym (none_held c.args.stream.now c.args.day (minutes_of (length c.args.readings.now)) c.args.update 1 c.args.readings.now none))
    (puts_none s)

pub returns-then-not-has_some-clause-kept : goal.returns-then-not-has_some-clause-kept
returns-then-not-has_some-clause-kept g c there = keeps_same (state g.S.Store c.args.tx.now.conn.now)

pub returns-then-not-has_some-clause-survives : goal.returns-then-not-has_some-clause-survives
returns-then-not-has_some-clause-survives g c = survives_same (state g.S.Store c.args.tx.now.conn.now)

pub returns-in-len1-clause-ok : goal.returns-in-len1-clause-ok
returns-in-len1-clause-ok g c =
    let old = state g.S.Store c.args.tx.now.conn.now in
    let mid = state g.S.Store c.body_rows.new.tx.conn.now in
    let new = state g.S.Store c.lay_over.new.tx.conn.now in
    let shown = c.row-item.result in
    let found = c.in_ok-rows.ensures.ok in
    let alone : c.in_ok-rows.rows.items ≡ shown ∷ [] = sym c.as_slice.ensures.value ∙ one_row _ shown (omega arith) c.row-item.is in
    if_ok c.lay_over.result _ _
    (lays_since old mid new c.lay_over.ensures.survives.clean (λ clean. (found clean).same) c.in_ok-rows.ensures.goes_on c.args.stream.now c.args.day c.args.update shown c.args.readings.now
    (λ clean rest has whole. subst (λ rows. Selects pack_tree (row.key_cells c.args.stream.now c.args.day c.args.update) body_columns old.now.trees rows) alone
    ((found clean).shows rest has whole)))
    c.lay_over.ensures.ok

pub returns-in-empty-clause-ok : goal.returns-in-empty-clause-ok
returns-in-empty-clause-ok g c =
    if_ok c.add_row.result _ _
    (puts_since (state g.S.Store c.args.tx.now.conn.now) (state g.S.Store c.body_rows.new.tx.conn.now) (state g.S.Store c.add_row.new.tx.conn.now)
    c.add_row.ensures.survives.clean (λ clean. (c.in_ok-rows.ensures.ok clean).same) c.in_ok-rows.ensures.goes_on _)
    c.add_row.ensures.ok

pub returns-in-empty-clause-kept : goal.returns-in-empty-clause-kept
returns-in-empty-clause-kept g c there =
    keeps_then (state g.S.Store c.args.tx.now.conn.now) (state g.S.Store c.body_rows.new.tx.conn.now) (state g.S.Store c.add_row.new.tx.conn.now)
    (c.body_rows.ensures.kept (omega (arith, there.clean, c.add_row.ensures.survives.clean)) there.rest.more there.schema) (c.add_row.ensures.kept there.clean)

pub returns-in-len1-clause-kept : goal.returns-in-len1-clause-kept
returns-in-len1-clause-kept g c there =
    keeps_then (state g.S.Store c.args.tx.now.conn.now) (state g.S.Store c.body_rows.new.tx.conn.now) (state g.S.Store c.lay_over.new.tx.conn.now)
    (c.body_rows.ensures.kept (omega (arith, there.clean, c.lay_over.ensures.survives.clean)) there.rest.more there.schema) (c.lay_over.ensures.kept there.clean)

pub returns-in_err-rows-clause-kept : goal.returns-in_err-rows-clause-kept
returns-in_err-rows-clause-kept g c there = c.body_rows.ensures.kept there.clean there.rest.more there.schema

pub returns-clause-kept : goal.returns-clause-kept
returns-clause-kept g c there = c.body_rows.ensures.kept there.clean there.rest.more there.schema

pub returns-then-not-has_some-clause-same_reference : goal.returns-then-not-has_some-clause-same_reference
returns-then-not-has_some-clause-same_reference g c = refl

pub returns-in_err-rows-clause-same_reference : goal.returns-in_err-rows-clause-same_reference
returns-in_err-rows-clause-same_reference g c = c.body_rows.ensures.same_reference

pub returns-in_err-rows-clause-ok : goal.returns-in_err-rows-clause-ok
returns-in_err-rows-clause-ok g c = IfOk-from_err c.from_residual.result _ c.from_residual.ensures.0

pub returns-in_err-rows-clause-survives : goal.returns-in_err-rows-clause-survives
returns-in_err-rows-clause-survives g c = c.body_rows.ensures.survives

pub returns-in-empty-clause-same_reference : goal.returns-in-empty-clause-same_reference
returns-in-empty-clause-same_reference g c = c.add_row.ensures.same_reference ∙ c.body_rows.ensures.same_reference

pub returns-in-empty-clause-survives : goal.returns-in-empty-clause-survives
returns-in-empty-clause-survives g c =
    survives_more (state g.S.Store c.args.tx.now.conn.now) (state g.S.Store c.body_rows.new.tx.conn.now) (state g.S.Store c.add_row.new.tx.conn.now)
    c.body_rows.ensures.survives c.add_row.ensures.survives

pub returns-in-len1-clause-same_reference : goal.returns-in-len1-clause-same_reference
returns-in-len1-clause-same_reference g c = c.lay_over.ensures.same_reference ∙ c.body_rows.ensures.same_reference

pub returns-in-len1-clause-survives : goal.returns-in-len1-clause-survives
returns-in-len1-clause-survives g c =
    survives_more (state g.S.Store c.args.tx.now.conn.now) (state g.S.Store c.body_rows.new.tx.conn.now) (state g.S.Store c.lay_over.new.tx.conn.now)
    c.body_rows.ensures.survives c.lay_over.ensures.survives

pub returns-clause-same_reference : goal.returns-clause-same_reference
returns-clause-same_reference g c = c.body_rows.ensures.same_reference

pub returns-clause-ok : goal.returns-clause-ok
returns-clause-ok g c = tt

pub returns-clause-survives : goal.returns-clause-survives
returns-clause-survives g c = c.body_rows.ensures.survives

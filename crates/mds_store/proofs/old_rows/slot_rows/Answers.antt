use Rattle.std.proofs.Common.{[], ◌∷◌, refl}
use Rattle.sqlite.specs.Held.{state}
use Rattle.mds_tables.specs.Tables.{version_tree}
use Rattle.mds_tables.proofs.QueryCauses.{why}
use Rattle.mds_tables.proofs.QueryLemmas.{finds_every, queried}
use Rattle.mds_store.specs.Shown.{version_slot}
use Rattle.mds_store.proofs.RowTexts.{select_slots, select_slots_cut, select_slots_is, select_slots_plain, select_slots_whole}
use Rattle.mds_store.proofs.old_rows.slot_rows.Goals as goal

pub returns-clause-asked : goal.returns-clause-asked
returns-clause-asked g c layout =
    queried layout select_slots (select_slots_plain layout.more) _
    (λ clean. finds_every layout select_slots (select_slots_plain layout.more) version_tree (version_slot ∷ []) _ (λ db. refl) (select_slots_is layout.more)
    _ _ (λ v. v.items) c.query_all.result
    (c.query_all.ensures.ok clean))
    c.query_all.ensures.err c.query_all.ensures.mode c.query_all.ensures.survives

pub returns-clause-cause : goal.returns-clause-cause
returns-clause-cause g c layout clean has =
    let old = state g.S.Store c.args.conn.now in
    let new = state g.S.Store c.query_all.new.self in
    why layout.more select_slots (select_slots_plain layout.more) [] (select_slots_whole layout.more) version_tree [] _ [] _ (select_slots_is layout.more)
    (select_slots_cut layout.more) old new has
    c.query_all.result (c.query_all.ensures.err clean)

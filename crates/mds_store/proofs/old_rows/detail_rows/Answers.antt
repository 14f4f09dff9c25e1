use Rattle.std.proofs.Common.{[], ◌∷◌, refl}
use Rattle.sqlite.specs.Held.{state}
use Rattle.mds_tables.specs.Tables.{detail_tree}
use Rattle.mds_tables.proofs.QueryCauses.{why}
use Rattle.mds_tables.proofs.QueryLemmas.{finds_every, queried}
use Rattle.mds_store.specs.Shown.{detail_moment}
use Rattle.mds_store.proofs.RowTexts.{select_moments, select_moments_cut, select_moments_is, select_moments_plain, select_moments_whole}
use Rattle.mds_store.proofs.old_rows.detail_rows.Goals as goal

pub returns-clause-asked : goal.returns-clause-asked
returns-clause-asked g c layout =
    queried layout select_moments (select_moments_plain layout.more) _
    (λ clean. finds_every layout select_moments (select_moments_plain layout.more) detail_tree (detail_moment ∷ []) _ (λ db. refl) (select_moments_is layout.more)
    _ _ (λ v. v.items) c.query_all.result
    (c.query_all.ensures.ok clean))
    c.query_all.ensures.err c.query_all.ensures.mode c.query_all.ensures.survives

pub returns-clause-cause : goal.returns-clause-cause
returns-clause-cause g c layout clean has =
    let old = state g.S.Store c.args.conn.now in
    let new = state g.S.Store c.query_all.new.self in
    why layout.more select_moments (select_moments_plain layout.more) [] (select_moments_whole layout.more) detail_tree [] _ [] _ (select_moments_is layout.more)
    (select_moments_cut layout.more) old new has
    c.query_all.result (c.query_all.ensures.err clean)

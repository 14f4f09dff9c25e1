use Rattle.std.proofs.Common.{[], ◌∷◌, refl}
use Rattle.sqlite.specs.Held.{state}
use Rattle.mds_tables.specs.Tables.{schema_tree, schema_version}
use Rattle.mds_tables.proofs.QueryCauses.{why}
use Rattle.mds_tables.proofs.QueryLemmas.{finds_every, queried}
use Rattle.mds_tables.proofs.SelectTexts.{select_version, select_version_cut, select_version_is, select_version_plain, select_version_whole}
use Rattle.mds_tables.proofs.selects.version_numbers.Goals as goal

pub returns-clause-asked : goal.returns-clause-asked
returns-clause-asked g c layout =
    queried layout select_version (select_version_plain layout.more) _
    (λ clean. finds_every layout select_version (select_version_plain layout.more) schema_tree (schema_version ∷ []) _ (λ db. refl) (select_version_is layout.more)
    _ _ (λ v. v.items) c.query_all.result
    (c.query_all.ensures.ok clean))
    c.query_all.ensures.err c.query_all.ensures.mode c.query_all.ensures.survives

pub returns-clause-cause : goal.returns-clause-cause
returns-clause-cause g c layout clean has =
    let old = state g.S.Store c.args.conn.now in
    let new = state g.S.Store c.query_all.new.self in
    why layout.more select_version (select_version_plain layout.more) [] (select_version_whole layout.more) 0 [] _ [] _ (select_version_is layout.more)
    (select_version_cut layout.more) old new has
    c.query_all.result (c.query_all.ensures.err clean)

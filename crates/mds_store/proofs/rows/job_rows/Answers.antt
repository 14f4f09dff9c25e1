use Rattle.std.proofs.Common.{[], ◌∷◌, codes, refl}
use Rattle.sqlite.specs.declared.types.Value.TheVariants.{Text}
use Rattle.mds_tables.specs.Tables.{job_body, job_table, job_total, job_tree}
use Rattle.mds_tables.proofs.QueryLemmas.{finds_rows, job_typed, queried}
use Rattle.mds_store.proofs.ListTexts.{select_job, select_job_is, select_job_plain}
use Rattle.mds_store.proofs.rows.job_rows.Goals as goal

pub returns : goal.returns
returns g c layout =
    queried layout select_job (select_job_plain layout.more) _
    (λ clean. finds_rows layout select_job (select_job_plain layout.more) job_tree (job_body ∷ job_total ∷ []) _ (λ db. refl)
    (Text c.args.id.now ∷ []) (select_job_is layout.more)
    job_table.columns ((codes "id", refl), tt) (job_typed layout.more) _ _ (λ v. v.items) c.query_all.result
    (rw c.id_cells.ensures at (c.query_all.ensures.ok clean)))
    c.query_all.ensures.err c.query_all.ensures.mode c.query_all.ensures.survives

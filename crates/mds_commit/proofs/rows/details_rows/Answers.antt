use Rattle.mds_tables.proofs.QueryLemmas.{queried}
use Rattle.mds_pack_rows.specs.Current.{current_layout}
use Rattle.mds_commit.proofs.DetailOrder.{finds_details}
use Rattle.mds_commit.proofs.DetailTexts.{select_details, select_details_plain}
use Rattle.mds_commit.proofs.rows.details_rows.Goals as goal

pub returns : goal.returns
returns g c =
    queried current_layout select_details select_details_plain _
    (λ clean. finds_details c.args.stream.now c.args.day _ _ (λ v. v.items) c.query_all.result
    (rw c.day_cells.ensures at (c.query_all.ensures.ok clean)))
    c.query_all.ensures.err c.query_all.ensures.mode c.query_all.ensures.survives

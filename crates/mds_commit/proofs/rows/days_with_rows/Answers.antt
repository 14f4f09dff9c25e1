use Rattle.mds_tables.proofs.QueryLemmas.{queried}
use Rattle.mds_pack_rows.specs.Current.{current_layout}
use Rattle.mds_commit.proofs.DaysWith.{finds_days}
use Rattle.mds_commit.proofs.DetailTexts.{select_days_with, select_days_with_plain}
use Rattle.mds_commit.proofs.rows.days_with_rows.Goals as goal

pub returns : goal.returns
returns g c =
    queried current_layout select_days_with select_days_with_plain _
    (λ clean. finds_days c.args.details.now c.args.first c.args.last _ _ (λ v. v.items) c.query_all.result
    (rw c.asked_cells.ensures at (c.query_all.ensures.ok clean)))
    c.query_all.ensures.err c.query_all.ensures.mode c.query_all.ensures.survives

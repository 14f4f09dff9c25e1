use Rattle.mds_tables.proofs.QueryLemmas.{queried}
use Rattle.mds_pack_rows.specs.Current.{current_layout}
use Rattle.mds_commit.proofs.DetailTexts.{select_range, select_range_plain}
use Rattle.mds_commit.proofs.RangeRows.{finds_range}
use Rattle.mds_commit.proofs.rows.range_rows.Goals as goal

pub returns : goal.returns
returns g c =
    queried current_layout select_range select_range_plain _
    (λ clean. finds_range c.args.stream.now c.args.first c.args.last _ _ (λ v. v.items) c.query_all.result
    (rw c.range_cells.ensures at (c.query_all.ensures.ok clean)))
    c.query_all.ensures.err c.query_all.ensures.mode c.query_all.ensures.survives

use Rattle.std.proofs.Common.{refl}
use Rattle.mds_tables.specs.Tables.{head_tree}
use Rattle.mds_tables.proofs.QueryLemmas.{queried}
use Rattle.mds_tables.proofs.TypedRows.{head_row}
use Rattle.mds_pack_rows.specs.Current.{current_layout, current_more}
use Rattle.mds_commit.specs.Cuts.{day_columns}
use Rattle.mds_commit.proofs.FormTexts.{by_day, select_head_range, select_head_range_is, select_head_range_plain}
use Rattle.mds_commit.proofs.RangeLemmas.{finds_range}
use Rattle.mds_commit.proofs.statements.head_range_rows.Goals as goal

pub returns : goal.returns
returns g c =
    queried current_layout select_head_range select_head_range_plain _
    (λ clean. finds_range current_layout select_head_range select_head_range_plain head_tree day_columns by_day _ select_head_range_is (λ db. refl) (head_row current_more)
    c.args.stream.now c.args.first c.args.last _ _ (λ v. v.items) c.query_all.result
    (rw c.range_cells.ensures at (c.query_all.ensures.ok clean)))
    c.query_all.ensures.err c.query_all.ensures.mode c.query_all.ensures.survives

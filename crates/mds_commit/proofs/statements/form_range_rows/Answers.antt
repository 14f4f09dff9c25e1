use Rattle.std.proofs.Common.{refl}
use Rattle.mds_tables.specs.Tables.{form_tree}
use Rattle.mds_tables.proofs.QueryLemmas.{queried}
use Rattle.mds_pack_rows.specs.Current.{current_layout}
use Rattle.mds_commit.specs.Cuts.{range_columns}
use Rattle.mds_commit.proofs.FormNamed.{form_row}
use Rattle.mds_commit.proofs.FormTexts.{by_day, select_form_range, select_form_range_is, select_form_range_plain}
use Rattle.mds_commit.proofs.RangeLemmas.{finds_range}
use Rattle.mds_commit.proofs.statements.form_range_rows.Goals as goal

pub returns : goal.returns
returns g c =
    queried current_layout select_form_range select_form_range_plain _
    (λ clean. finds_range current_layout select_form_range select_form_range_plain form_tree range_columns by_day _ select_form_range_is (λ db. refl) form_row
    c.args.stream.now c.args.first c.args.last _ _ (λ v. v.items) c.query_all.result
    (rw c.range_cells.ensures at (c.query_all.ensures.ok clean)))
    c.query_all.ensures.err c.query_all.ensures.mode c.query_all.ensures.survives

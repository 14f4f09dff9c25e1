use Rattle.std.proofs.Common.{refl}
use Rattle.mds_tables.specs.Cells as row
use Rattle.mds_tables.specs.Tables.{head_table, head_tree}
use Rattle.mds_tables.proofs.QueryLemmas.{finds_rows, head_for, head_typed, queried}
use Rattle.mds_pack_rows.specs.Current.{current_layout, current_more}
use Rattle.mds_commit.specs.FormRows.{unit_columns}
use Rattle.mds_commit.proofs.FormTexts.{select_unit, select_unit_is, select_unit_plain}
use Rattle.mds_commit.proofs.statements.unit_rows.Goals as goal

pub returns : goal.returns
returns g c =
    queried current_layout select_unit select_unit_plain _
    (λ clean. finds_rows current_layout select_unit select_unit_plain head_tree unit_columns _ (λ db. refl)
    (row.day_cells c.args.stream.now c.args.day) select_unit_is
    head_table.columns (head_for c.args.stream.now c.args.day) (head_typed current_more) _ _ (λ v. v.items) c.query_all.result
    (rw c.day_cells.ensures at (c.query_all.ensures.ok clean)))
    c.query_all.ensures.err c.query_all.ensures.mode c.query_all.ensures.survives

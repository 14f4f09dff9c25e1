use Rattle.std.proofs.Common.{refl}
use Rattle.mds_tables.specs.Cells as row
use Rattle.mds_tables.specs.Tables.{form_tree}
use Rattle.mds_tables.proofs.QueryLemmas.{finds_rows, queried}
use Rattle.mds_pack_rows.specs.Current.{current_layout}
use Rattle.mds_pack_rows.specs.FormTables.{form_table}
use Rattle.mds_commit.specs.FormRows.{form_columns}
use Rattle.mds_commit.proofs.FormNamed.{form_for, form_typed}
use Rattle.mds_commit.proofs.FormTexts.{select_forms, select_forms_is, select_forms_plain}
use Rattle.mds_commit.proofs.statements.form_rows.Goals as goal

pub returns : goal.returns
returns g c =
    queried current_layout select_forms select_forms_plain _
    (λ clean. finds_rows current_layout select_forms select_forms_plain form_tree form_columns _ (λ db. refl)
    (row.day_cells c.args.stream.now c.args.day) select_forms_is
    form_table.columns (form_for c.args.stream.now c.args.day) form_typed _ _ (λ v. v.items) c.query_all.result
    (rw c.day_cells.ensures at (c.query_all.ensures.ok clean)))
    c.query_all.ensures.err c.query_all.ensures.mode c.query_all.ensures.survives

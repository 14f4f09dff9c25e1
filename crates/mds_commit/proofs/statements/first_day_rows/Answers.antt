use Rattle.std.proofs.Common.{drop, refl}
use Rattle.mds_tables.specs.Tables.{form_tree}
use Rattle.mds_tables.specs.Shown.{rising}
use Rattle.mds_tables.proofs.FirstLemmas.{finds_first}
use Rattle.mds_tables.proofs.QueryLemmas.{queried, stream_for}
use Rattle.mds_pack_rows.specs.Current.{current_layout}
use Rattle.mds_pack_rows.specs.FormTables.{form_table}
use Rattle.mds_commit.specs.FormRows.{form_day}
use Rattle.mds_commit.proofs.FormNamed.{form_typed}
use Rattle.mds_commit.proofs.FormTexts.{select_first_day, select_first_day_is, select_first_day_plain}
use Rattle.mds_commit.proofs.statements.first_day_rows.Goals as goal

pub returns : goal.returns
returns g c =
    queried current_layout select_first_day select_first_day_plain _
    (λ clean. finds_first current_layout select_first_day select_first_day_plain rising form_tree form_day _
    select_first_day_is (λ db. refl) c.args.stream.now form_table.columns (stream_for c.args.stream.now (drop 2 form_table.columns))
    form_typed _ _ (λ v. v.items) c.query_all.result
    (rw c.stream_cells.ensures at (c.query_all.ensures.ok clean)))
    c.query_all.ensures.err c.query_all.ensures.mode c.query_all.ensures.survives

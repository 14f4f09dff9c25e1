use Rattle.std.proofs.Common.{[], refl}
use Rattle.mds_tables.specs.Tables.{form_tree, stream_columns}
use Rattle.mds_tables.proofs.QueryLemmas.{finds_rows, queried}
use Rattle.mds_pack_rows.specs.Current.{current_layout}
use Rattle.mds_pack_rows.specs.FormTables.{form_table}
use Rattle.mds_commit.proofs.FormNamed.{form_typed}
use Rattle.mds_commit.proofs.FormTexts.{select_form_streams, select_form_streams_is, select_form_streams_plain}
use Rattle.mds_commit.proofs.statements.form_stream_rows.Goals as goal

pub returns : goal.returns
returns g c =
    queried current_layout select_form_streams select_form_streams_plain _
    (λ clean. finds_rows current_layout select_form_streams select_form_streams_plain form_tree stream_columns _ (λ db. refl)
    [] select_form_streams_is
    form_table.columns tt form_typed _ _ (λ v. v.items) c.query_all.result
    (c.query_all.ensures.ok clean))
    c.query_all.ensures.err c.query_all.ensures.mode c.query_all.ensures.survives

use Rattle.std.proofs.Common.{[], refl}
use Rattle.mds_tables.specs.Tables.{period_table, period_tree, stream_columns}
use Rattle.mds_tables.proofs.QueryLemmas.{finds_rows, period_typed, queried}
use Rattle.mds_pack_rows.specs.Current.{current_layout, current_more}
use Rattle.mds_commit.proofs.FormTexts.{select_period_streams, select_period_streams_is, select_period_streams_plain}
use Rattle.mds_commit.proofs.statements.period_stream_rows.Goals as goal

pub returns : goal.returns
returns g c =
    queried current_layout select_period_streams select_period_streams_plain _
    (λ clean. finds_rows current_layout select_period_streams select_period_streams_plain period_tree stream_columns _ (λ db. refl)
    [] select_period_streams_is
    period_table.columns tt (period_typed current_more) _ _ (λ v. v.items) c.query_all.result
    (c.query_all.ensures.ok clean))
    c.query_all.ensures.err c.query_all.ensures.mode c.query_all.ensures.survives

use Rattle.std.proofs.Common.{refl}
use Rattle.mds_tables.proofs.QueryLemmas.{queried}
use Rattle.mds_pack_rows.specs.Current.{current_layout, current_packs}
use Rattle.mds_pack_rows.specs.PackTables.{pack_tree}
use Rattle.mds_pack_rows.proofs.AskLemmas.{pack_row}
use Rattle.mds_commit.specs.Cuts.{range_columns}
use Rattle.mds_commit.proofs.FormTexts.{by_day, select_pack_range, select_pack_range_is, select_pack_range_plain}
use Rattle.mds_commit.proofs.RangeLemmas.{finds_range}
use Rattle.mds_commit.proofs.statements.pack_range_rows.Goals as goal

pub returns : goal.returns
returns g c =
    queried current_layout select_pack_range select_pack_range_plain _
    (λ clean. finds_range current_layout select_pack_range select_pack_range_plain pack_tree range_columns by_day _ select_pack_range_is (λ db. refl) (pack_row current_packs.rest.more)
    c.args.stream.now c.args.first c.args.last _ _ (λ v. v.items) c.query_all.result
    (rw c.range_cells.ensures at (c.query_all.ensures.ok clean)))
    c.query_all.ensures.err c.query_all.ensures.mode c.query_all.ensures.survives
